-- The words of a line by the places of its blanks.
use Rattle.std.proofs.Common.{◌≡◌, ℕ, ◌<◌, Bool, true, false, not, List, [], ◌∷◌, length, refl, ap, ◌∙◌, sym, arith, drop, take}
use borrow.Author.Tests.{not-true, not-false}
use Rattle.std.specs.List.{position_or_len}
use Rattle.text_terms.proofs.Words.{words_of-last, words_of-more}
use Rattle.text_terms.specs.Lines.{is_blank, begins_word, words_of, add_first}
use Rattle.grid_number.proofs.Positions.{position_or_len-here, position_or_len-past}

-- no blank
abbrev pub is_mark : ℕ → Bool
is_mark c = not (is_blank c)

-- a blank gives no word
pub words_of-blank : (c : ℕ) (cs : List ℕ) → is_blank c ≡ true → words_of (c ∷ cs) ≡ words_of cs
words_of-blank c cs e = rw e refl

-- blanks at the front give no word
pub words_of-past_blanks : (cs : List ℕ) → words_of (drop (position_or_len is_mark cs) cs) ≡ words_of cs
words_of-past_blanks [] = refl
words_of-past_blanks (c ∷ cs) = by_blank (is_blank c) refl (words_of-past_blanks cs) where
  by_blank : (b : Bool) → is_blank c ≡ b → words_of (drop (position_or_len is_mark cs) cs) ≡ words_of cs →
      words_of (drop (position_or_len is_mark (c ∷ cs)) (c ∷ cs)) ≡ words_of (c ∷ cs)
  by_blank true e h = rw (position_or_len-past is_mark c cs (ap not e)) (h ∙ sym (words_of-blank c cs e))
  by_blank false e h = rw (position_or_len-here is_mark c cs (ap not e)) refl

-- what stands after blanks at the front is nothing, or begins a word
pub begins_word-past_blanks : (cs : List ℕ) → 0 < length (drop (position_or_len is_mark cs) cs) → begins_word (drop (position_or_len is_mark cs) cs) ≡ true
begins_word-past_blanks [] h = absurd (omega arith)
begins_word-past_blanks (c ∷ cs) h = by_blank (is_blank c) refl (begins_word-past_blanks cs) h where
  by_blank : (b : Bool) → is_blank c ≡ b → (0 < length (drop (position_or_len is_mark cs) cs) → begins_word (drop (position_or_len is_mark cs) cs) ≡ true) →
      0 < length (drop (position_or_len is_mark (c ∷ cs)) (c ∷ cs)) → begins_word (drop (position_or_len is_mark (c ∷ cs)) (c ∷ cs)) ≡ true
  by_blank true e i h = rw (position_or_len-past is_mark c cs (ap not e)) (i (rw (position_or_len-past is_mark c cs (ap not e)) at h))
  by_blank false e i h = rw (position_or_len-here is_mark c cs (ap not e)) (ap not e)

-- before no word stands a blank or the end
position_or_len-no_word : (cs : List ℕ) → begins_word cs ≡ false → position_or_len is_blank cs ≡ 0
position_or_len-no_word [] e = refl
position_or_len-no_word (c ∷ cs) e = position_or_len-here is_blank c cs (not-false (is_blank c) e)

-- the first word goes up to the first blank or the end
pub words_of-first : (cs : List ℕ) → begins_word cs ≡ true → words_of cs ≡ take (position_or_len is_blank cs) cs ∷ words_of (drop (position_or_len is_blank cs) cs)
words_of-first [] e = cc
words_of-first (c ∷ cs) e = by_next (begins_word cs) refl (words_of-first cs) where
  no_blank : is_blank c ≡ false
  no_blank = not-true (is_blank c) e

  by_next : (b : Bool) → begins_word cs ≡ b →
      (begins_word cs ≡ true → words_of cs ≡ take (position_or_len is_blank cs) cs ∷ words_of (drop (position_or_len is_blank cs) cs)) →
      words_of (c ∷ cs) ≡ take (position_or_len is_blank (c ∷ cs)) (c ∷ cs) ∷ words_of (drop (position_or_len is_blank (c ∷ cs)) (c ∷ cs))
  by_next true more i = rw (position_or_len-past is_blank c cs no_blank) (words_of-more c cs no_blank more ∙ ap (add_first c) (i more))
  by_next false last i = rw (position_or_len-past is_blank c cs no_blank, position_or_len-no_word cs last) (words_of-last c cs no_blank last)
