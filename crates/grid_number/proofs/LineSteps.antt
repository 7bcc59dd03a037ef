-- The lines of a text by the places of its line feeds.
use Rattle.std.proofs.Common.{◌≡◌, ℕ, zero, suc, ◌<◌, true, false, List, [], ◌∷◌, ◌++◌, length, refl, ap, ◌∙◌, arith, drop, take, get_or}
use Rattle.std.specs.Prelude.{◌==◌}
use Rattle.text_terms.specs.Lines.{raw_lines, add_first, without_cr}

-- a line feed ends an empty line
raw_lines-feed : (c : ℕ) (cs : List ℕ) → (c == 10) ≡ true → raw_lines (c ∷ cs) ≡ [] ∷ raw_lines cs
raw_lines-feed c cs e = rw e refl

-- another byte stands first in its line
raw_lines-byte : (c : ℕ) (cs : List ℕ) → (c == 10) ≡ false → raw_lines (c ∷ cs) ≡ add_first c (raw_lines cs)
raw_lines-byte c cs e = rw e refl

-- a text is cut at its first line feed
pub raw_lines-cut : (n : ℕ) (cs : List ℕ) → n < length cs → ((k : ℕ) → k < n → (get_or cs k 0 == 10) ≡ false) → (get_or cs n 0 == 10) ≡ true →
    raw_lines cs ≡ take n cs ∷ raw_lines (drop (suc n) cs)
raw_lines-cut n [] l before here = absurd (omega arith)
raw_lines-cut zero (c ∷ cs) l before here = raw_lines-feed c cs here
raw_lines-cut (suc n) (c ∷ cs) l before here =
    raw_lines-byte c cs (before 0 (omega arith)) ∙ ap (add_first c) (raw_lines-cut n cs (omega arith) (λ k h. before (suc k) (omega arith)) here)

-- without a line feed all that is left is one line
pub raw_lines-last : (c : ℕ) (cs : List ℕ) → ((k : ℕ) → k < length (c ∷ cs) → (get_or (c ∷ cs) k 0 == 10) ≡ false) → raw_lines (c ∷ cs) ≡ (c ∷ cs) ∷ []
raw_lines-last c [] none = raw_lines-byte c [] (none 0 (omega arith))
raw_lines-last c (d ∷ cs) none =
    raw_lines-byte c (d ∷ cs) (none 0 (omega arith)) ∙ ap (add_first c) (raw_lines-last d cs (λ k h. none (suc k) (omega arith)))

-- a CR at the end is dropped
pub without_cr-drops : (front : List ℕ) → without_cr (front ++ 13 ∷ []) ≡ front
without_cr-drops [] = refl
without_cr-drops (c ∷ []) = refl
without_cr-drops (c ∷ d ∷ cs) = ap (λ (xs : List ℕ). c ∷ xs) (without_cr-drops (d ∷ cs))

-- another byte at the end stays
pub without_cr-keeps : (front : List ℕ) (c : ℕ) → (c == 13) ≡ false → without_cr (front ++ c ∷ []) ≡ front ++ c ∷ []
without_cr-keeps [] c e = rw e refl
without_cr-keeps (b ∷ []) c e = ap (λ (xs : List ℕ). b ∷ xs) (without_cr-keeps [] c e)
without_cr-keeps (b ∷ d ∷ cs) c e = ap (λ (xs : List ℕ). b ∷ xs) (without_cr-keeps (d ∷ cs) c e)
