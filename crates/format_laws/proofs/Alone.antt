-- Lines that do not go on are the joined lines of their text.
use Rattle.std.proofs.Common.{◌≡◌, ℕ, suc, Bool, false, not, List, [], ◌∷◌, refl, ap, ◌∙◌, if◌then◌else◌}
use Rattle.std.specs.Prelude.{◌==◌, ◌&&◌, take, drop, bytes_eq}
use Rattle.std.specs.List.{All}
use Rattle.std.proofs.lemmas.List.Elements.{All-head, All-tail}
use Rattle.text_terms.specs.Lines.{numbered, last_is, is_continued, begins_comment, words_of, blank_last, with_next, joined_from, without_mark}

-- the line does not end in a backslash
abbrev pub IsAlone : List ℕ → Type 0
IsAlone line = last_is 92 line ≡ false

-- so it does not go on
is_continued-alone : (line : List ℕ) → IsAlone line → is_continued line ≡ false
is_continued-alone line e = ap (λ (b : Bool). b && not (begins_comment (words_of line))) e

-- and each stays as it is
pub joined_from-alone : (n : ℕ) (ls : List (List ℕ)) → All IsAlone ls → joined_from n ls ≡ numbered n ls
joined_from-alone n [] alone = refl
joined_from-alone n (l ∷ ls) alone =
    ap (λ (b : Bool). if b then with_next n (blank_last l) (joined_from (suc n) ls) else (n, l) ∷ joined_from (suc n) ls) (is_continued-alone l (All-head IsAlone l ls alone))
    ∙ ap (λ (ms : List (ℕ × List ℕ)). (n, l) ∷ ms) (joined_from-alone (suc n) ls (All-tail IsAlone l ls alone))

-- a text that begins with another byte has no mark
pub without_mark-none : (c : ℕ) (cs : List ℕ) → (c == 239) ≡ false → without_mark (c ∷ cs) ≡ c ∷ cs
without_mark-none c cs e = ap (λ (b : Bool). if b && bytes_eq (take 2 cs) (187 ∷ 191 ∷ []) then drop 2 cs else c ∷ cs) e
