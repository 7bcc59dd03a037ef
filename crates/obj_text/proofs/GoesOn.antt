-- The words of a line that goes on, part after part.
use Rattle.std.proofs.Common.{◌≡◌, ℕ, suc, ◌-◌, ◌<◌, Bool, true, false, cond, not, List, [], ◌∷◌, ◌++◌, length, take, drop, get_or, refl, ap, ◌∙◌, sym, append-nil, append_assoc, ne_eqb, arith}
use Rattle.std.specs.Prelude.{◌==◌, ◌&&◌}
use Rattle.std.specs.List.{position_or_len}
use borrow.Author.Tests.{not-true}
use Rattle.text_terms.specs.Lines.{is_blank, begins_word, words_of, add_first, last_is, blank_last, is_continued, lines_of, is_comment, begins_comment, before_comment, with_next, joined_from}
use Rattle.format_terms.specs.Obj.{word_lines}
use Rattle.obj_text.specs.Lines.{first_words, words_left, lines_past}
use Rattle.grid_number.proofs.Positions.{position_or_len-past}
use Rattle.grid_number.proofs.WordSteps.{words_of-blank, words_of-first}
use Rattle.text_terms.proofs.Words.{words_of-last, words_of-more}

-- the last byte
pub last_is-end : (b c : ℕ) (front : List ℕ) → last_is b (front ++ c ∷ []) ≡ (c == b)
last_is-end b c [] = refl
last_is-end b c (x ∷ []) = refl
last_is-end b c (x ∷ y ∷ front) = last_is-end b c (y ∷ front)

-- a blank behind a text begins no word
begins_word-before_blank : (xs ys : List ℕ) → begins_word (xs ++ 32 ∷ ys) ≡ begins_word xs
begins_word-before_blank [] ys = refl
begins_word-before_blank (x ∷ xs) ys = refl

-- a blank parts the words before it from those after it
pub words_of-parted : (xs ys : List ℕ) → words_of (xs ++ 32 ∷ ys) ≡ words_of xs ++ words_of ys
words_of-parted [] ys = refl
words_of-parted (c ∷ cs) ys = by_blank (is_blank c) refl (words_of-parted cs ys) where
  by_next : (b : Bool) → is_blank c ≡ false → begins_word cs ≡ b → words_of (cs ++ 32 ∷ ys) ≡ words_of cs ++ words_of ys →
      words_of (c ∷ (cs ++ 32 ∷ ys)) ≡ words_of (c ∷ cs) ++ words_of ys
  by_next true e f h =
      words_of-more c (cs ++ 32 ∷ ys) e (begins_word-before_blank cs ys ∙ f)
      ∙ ap (add_first c) h
      ∙ ap (λ (ws : List (List ℕ)). add_first c (ws ++ words_of ys)) (words_of-first cs f)
      ∙ ap (λ (ws : List (List ℕ)). add_first c ws ++ words_of ys) (sym (words_of-first cs f))
      ∙ ap (λ (ws : List (List ℕ)). ws ++ words_of ys) (sym (words_of-more c cs e f))
  by_next false e f h =
      words_of-last c (cs ++ 32 ∷ ys) e (begins_word-before_blank cs ys ∙ f)
      ∙ ap (λ (ws : List (List ℕ)). (c ∷ []) ∷ ws) h
      ∙ ap (λ (ws : List (List ℕ)). ws ++ words_of ys) (sym (words_of-last c cs e f))

  by_blank : (b : Bool) → is_blank c ≡ b → words_of (cs ++ 32 ∷ ys) ≡ words_of cs ++ words_of ys → words_of (c ∷ (cs ++ 32 ∷ ys)) ≡ words_of (c ∷ cs) ++ words_of ys
  by_blank true e h = words_of-blank c (cs ++ 32 ∷ ys) e ∙ h ∙ ap (λ (ws : List (List ℕ)). ws ++ words_of ys) (sym (words_of-blank c cs e))
  by_blank false e h = by_next (begins_word cs) e refl h

-- the \ that counts as a blank adds no word
pub words_of-blank_last : (line : List ℕ) → words_of (blank_last line) ≡ words_of (take (length line - 1) line)
words_of-blank_last line = words_of-parted (take (length line - 1) line) [] ∙ append-nil (words_of (take (length line - 1) line))

-- a line that goes on has the words of its part and those of the text in which it goes on
pub words_left-continued : (line after : List ℕ) → is_continued line ≡ true → words_left (take (length line - 1) line) after ≡ first_words (line ∷ lines_of after)
words_left-continued line after e = rw e (ap (λ (ws : List (List ℕ)). ws ++ first_words (lines_of after)) (sym (words_of-blank_last line)))

-- a line that ends in another byte is at its end
pub is_continued-end : (line front : List ℕ) (last : ℕ) → line ≡ front ++ last ∷ [] → is_continued line ≡ ((last == 92) && not (begins_comment (words_of line)))
is_continued-end line front last e = ap (λ (b : Bool). b && not (begins_comment (words_of line))) (ap (last_is 92) e ∙ last_is-end 92 last front)

-- a text that begins a word, or is empty, begins a comment where its first byte does
pub begins_comment-first : (text : List ℕ) → (0 < length text → begins_word text ≡ true) → begins_comment (words_of text) ≡ is_comment text
begins_comment-first [] begins = refl
begins_comment-first (c ∷ cs) begins =
    let word : begins_word (c ∷ cs) ≡ true = begins (omega arith) in
    ap begins_comment (words_of-first (c ∷ cs) word)
    ∙ ap (λ (n : ℕ). is_comment (take n (c ∷ cs))) (position_or_len-past is_blank c cs (not-true (is_blank c) word))

-- a text that begins a word which begins no comment has that word first
pub before_comment-first : (text later : List ℕ) → begins_word text ≡ true → (get_or text 0 0 ≡ 35 → ⊥) →
    before_comment (words_left text later) ≡ take (position_or_len is_blank text) text ∷ before_comment (words_left (drop (position_or_len is_blank text) text) later)
before_comment-first [] later begins plain = cc
before_comment-first (c ∷ cs) later begins plain =
    let there : is_blank c ≡ false = not-true (is_blank c) begins in
    let past = position_or_len-past is_blank c cs there in
    ap (λ (ws : List (List ℕ)). before_comment (ws ++ first_words (lines_of later))) (words_of-first (c ∷ cs) begins)
    ∙ plain_first (take (position_or_len is_blank (c ∷ cs)) (c ∷ cs)) (words_left (drop (position_or_len is_blank (c ∷ cs)) (c ∷ cs)) later)
    (ap (λ (n : ℕ). is_comment (take n (c ∷ cs))) past ∙ ne_eqb c 35 plain) where
      plain_first : (w : List ℕ) (ws : List (List ℕ)) → is_comment w ≡ false → before_comment (w ∷ ws) ≡ w ∷ before_comment ws
      plain_first w ws e = ap (λ (b : Bool). cond b [] (w ∷ before_comment ws)) e

-- the first joined line of some lines: its text has their first words, and the others come after it
record IsCut (n : ℕ) (ls : List (List ℕ)) : Type 0 where
  text : List ℕ
  cut : joined_from n ls ≡ (n, text) ∷ joined_from (lines_past n ls).0 (lines_past n ls).1
  words : words_of text ≡ first_words ls

-- a line that goes on, before the text in which it does
joined_words : (l x : List ℕ) → words_of (blank_last l ++ x) ≡ words_of (blank_last l) ++ words_of x
joined_words l x =
    ap words_of (append_assoc (take (length l - 1) l) (32 ∷ []) x)
    ∙ words_of-parted (take (length l - 1) l) x
    ∙ ap (λ (ws : List (List ℕ)). ws ++ words_of x) (sym (words_of-blank_last l))

-- some lines are cut so
cut_first : (n : ℕ) (l : List ℕ) (ls : List (List ℕ)) → IsCut n (l ∷ ls)
cut_first n l [] = by_end (is_continued l) refl where
  by_end : (b : Bool) → is_continued l ≡ b → IsCut n (l ∷ [])
  by_end true e = record { text = blank_last l; cut = rw e refl; words = rw e (sym (append-nil (words_of (blank_last l)))) }
  by_end false e = record { text = l; cut = rw e refl; words = rw e refl }
cut_first n l (m ∷ ms) = by_end (is_continued l) refl (cut_first (suc n) m ms) where
  by_end : (b : Bool) → is_continued l ≡ b → IsCut (suc n) (m ∷ ms) → IsCut n (l ∷ m ∷ ms)
  by_end true e later = record {
    text = blank_last l ++ later.text;
    cut = rw e (ap (with_next n (blank_last l)) later.cut);
    words = rw e (joined_words l later.text ∙ ap (λ (ws : List (List ℕ)). words_of (blank_last l) ++ ws) later.words);
  }
  by_end false e later = record { text = l; cut = rw e refl; words = rw e refl }

-- the words of the first joined line, and the lines after it
pub word_lines-cut : (n m : ℕ) (l : List ℕ) (ls ms : List (List ℕ)) → lines_past n (l ∷ ls) ≡ (m, ms) →
    word_lines (joined_from n (l ∷ ls)) ≡ (n, before_comment (first_words (l ∷ ls))) ∷ word_lines (joined_from m ms)
word_lines-cut n m l ls ms past =
    let first = cut_first n l ls in
    ap word_lines first.cut
    ∙ ap (λ (ws : List (List ℕ)). (n, before_comment ws) ∷ word_lines (joined_from (lines_past n (l ∷ ls)).0 (lines_past n (l ∷ ls)).1)) first.words
    ∙ ap (λ (p : ℕ × List (List ℕ)). (n, before_comment (first_words (l ∷ ls))) ∷ word_lines (joined_from p.0 p.1)) past
