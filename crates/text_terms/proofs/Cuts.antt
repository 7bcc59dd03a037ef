-- A text cut at its first byte that passes a test.
use Rattle.std.proofs.Common.{◌≡◌, ℕ, Bool, true, false, List, [], ◌∷◌, Some, refl}
use Rattle.text_terms.specs.Numbers.{cut_at}

-- a byte that passes cuts
pub cut_at-here : (p : ℕ → Bool) (c : ℕ) (cs : List ℕ) → p c ≡ true → cut_at p (c ∷ cs) ≡ ([], Some cs)
cut_at-here p c cs e = rw e refl

-- another stands in front
pub cut_at-past : (p : ℕ → Bool) (c : ℕ) (cs : List ℕ) → p c ≡ false → cut_at p (c ∷ cs) ≡ (c ∷ (cut_at p cs).0, (cut_at p cs).1)
cut_at-past p c cs e = rw e refl
