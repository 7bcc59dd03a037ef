-- The words of a line, byte by byte.
use Rattle.std.proofs.Common.{◌≡◌, ℕ, true, false, List, [], ◌∷◌, refl}
use Rattle.text_terms.specs.Lines.{is_blank, begins_word, words_of, add_first}

-- the byte of a word before a blank or the end is the last of its word
pub words_of-last : (c : ℕ) (cs : List ℕ) → is_blank c ≡ false → begins_word cs ≡ false → words_of (c ∷ cs) ≡ (c ∷ []) ∷ words_of cs
words_of-last c cs e f = rw (e, f) refl

-- the byte of a word before another of its bytes stands first in the word
pub words_of-more : (c : ℕ) (cs : List ℕ) → is_blank c ≡ false → begins_word cs ≡ true → words_of (c ∷ cs) ≡ add_first c (words_of cs)
words_of-more c cs e f = rw (e, f) refl
