-- A plain line is the first of its text, and its words are those that it was made of.
use Rattle.std.proofs.Common.{◌≡◌, ℕ, suc, ◌<◌, ◌+◌, Bool, true, false, cond, not, List, [], ◌∷◌, ◌++◌, map, refl, ap, ◌∙◌, sym, arith, append_assoc}
use Rattle.std.specs.Prelude.{◌&&◌, ◌==◌}
use Rattle.std.proofs.lemmas.Bool.Decides.{nat_tests}
use Rattle.text_terms.proofs.Digits.{left, right}
use Rattle.grid_number.proofs.LineSteps.{without_cr-drops}
use Rattle.text_terms.specs.Lines.{add_first, raw_lines, without_cr, words_of, lines_of, last_is, is_comment, is_continued, begins_comment, before_comment, joined_from}
use Rattle.format_terms.specs.Obj.{word_lines}
use Rattle.format_laws.proofs.Bytes.{Above, Above-lower}
use Rattle.format_laws.proofs.Words.{spaced, words_of-spaced, Above-spaced}
use Rattle.format_laws.proofs.Lines.{lines_of-line}
use Rattle.format_laws.proofs.Plain.{IsPlain, IsPlain-letter, last_is-word}
use Rattle.obj_text.specs.Plain.{is_plain, all_plain, IsPlainWord, line_end, with_line}

-- plain bytes are above a space
Above-plain : (cs : List ℕ) → all_plain cs ≡ true → Above 32 cs
Above-plain [] plain = tt
Above-plain (c ∷ cs) plain =
    let here = left (is_plain c) (all_plain cs) plain in
    (grind (arith, nat_tests, here), Above-plain cs (right (is_plain c) (all_plain cs) plain))

-- the last is no backslash
last_is-plain : (cs : List ℕ) → all_plain cs ≡ true → last_is 92 cs ≡ false
last_is-plain [] plain = refl
last_is-plain (c ∷ []) plain = grind (arith, nat_tests, plain)
last_is-plain (c ∷ d ∷ cs) plain = last_is-plain (d ∷ cs) (right (is_plain c) (all_plain (d ∷ cs)) plain)

-- the first is no #
is_comment-plain : (cs : List ℕ) → all_plain cs ≡ true → is_comment cs ≡ false
is_comment-plain [] plain = refl
is_comment-plain (c ∷ cs) plain = let here = left (is_plain c) (all_plain cs) plain in grind (arith, nat_tests, here)

pub IsPlain-word : (w : List ℕ) → IsPlainWord w → IsPlain w
IsPlain-word w p = record { word = record { some = p.some; marks = Above-plain w p.plain }; no_comment = is_comment-plain w p.plain; no_end = last_is-plain w p.plain }

-- a line that does not go on has its own words
word_lines-alone : (n : ℕ) (l : List ℕ) (ls : List (List ℕ)) → is_continued l ≡ false →
    word_lines (joined_from n (l ∷ ls)) ≡ (n, before_comment (words_of l)) ∷ word_lines (joined_from (suc n) ls)
word_lines-alone n l ls e = rw e refl

-- a byte above 13 is no LF
no_feed : (c : ℕ) → 13 < c → (c == 10) ≡ false
no_feed c more = grind (arith, nat_tests)

-- a CR before the LF is the last of its line
raw_lines-cr : (line rest : List ℕ) → Above 13 line → raw_lines (line ++ 13 ∷ 10 ∷ rest) ≡ (line ++ 13 ∷ []) ∷ raw_lines rest
raw_lines-cr [] rest above = refl
raw_lines-cr (c ∷ cs) rest above =
    ap (λ (b : Bool). cond b ([] ∷ raw_lines (cs ++ 13 ∷ 10 ∷ rest)) (add_first c (raw_lines (cs ++ 13 ∷ 10 ∷ rest)))) (no_feed c above.0)
    ∙ ap (add_first c) (raw_lines-cr cs rest above.1)

-- a line is the first one, whatever ends it
lines_of-ended : (cr : Bool) (line rest : List ℕ) → Above 13 line → lines_of (line ++ (line_end cr ++ rest)) ≡ line ∷ lines_of rest
lines_of-ended false line rest above = ap lines_of (sym (append_assoc line (10 ∷ []) rest)) ∙ lines_of-line line rest above
lines_of-ended true line rest above =
    ap (λ (ls : List (List ℕ)). map without_cr ls) (raw_lines-cr line rest above)
    ∙ ap (λ (l : List ℕ). l ∷ lines_of rest) (without_cr-drops line)

-- a text with a plain line in front is that line, its end and the rest
with_line-is : (w : ℕ) (a b c : List ℕ) (cr : Bool) (rest : List ℕ) → with_line w a b c cr rest ≡ spaced (w ∷ []) a b c ++ (line_end cr ++ rest)
with_line-is w a b c cr rest = simp append_assoc

-- the words of four plain words with a space between them
words-plain : (w a b c : List ℕ) → IsPlain w → IsPlain a → IsPlain b → IsPlain c → before_comment (words_of (spaced w a b c)) ≡ w ∷ a ∷ b ∷ c ∷ []
words-plain w a b c p q r s = ap before_comment (words_of-spaced w a b c p.word q.word r.word s.word) ∙ none where
  none : before_comment (w ∷ a ∷ b ∷ c ∷ []) ≡ w ∷ a ∷ b ∷ c ∷ []
  none = rw (p.no_comment, q.no_comment, r.no_comment, s.no_comment) refl

-- their line does not go on
is_continued-plain : (w a b c : List ℕ) → IsPlain c → is_continued (spaced w a b c) ≡ false
is_continued-plain w a b c s =
    ap (λ (e : Bool). e && not (begins_comment (words_of (spaced w a b c))))
    (ap (last_is 92) (regrouped w a b c) ∙ last_is-word (w ++ 32 ∷ (a ++ 32 ∷ (b ++ 32 ∷ []))) c s) where
      regrouped : (w a b c : List ℕ) → spaced w a b c ≡ (w ++ 32 ∷ (a ++ 32 ∷ (b ++ 32 ∷ []))) ++ c
      regrouped w a b c = simp append_assoc

-- so it is the first line, with these words
pub words-first : (n w : ℕ) (a b c : List ℕ) (cr : Bool) (text rest : List ℕ) → text ≡ with_line w a b c cr rest → 92 < w → IsPlain a → IsPlain b → IsPlain c →
    word_lines (joined_from n (lines_of text)) ≡ (n, (w ∷ []) ∷ a ∷ b ∷ c ∷ []) ∷ word_lines (joined_from (n + 1) (lines_of rest))
words-first n w a b c cr text rest split high q r s =
    let p = IsPlain-letter w high in
    let next : suc n ≡ n + 1 = omega arith in
    let line = spaced (w ∷ []) a b c in
    ap (λ (t : List ℕ). word_lines (joined_from n (lines_of t))) (split ∙ with_line-is w a b c cr rest)
    ∙ ap (λ (ls : List (List ℕ)). word_lines (joined_from n ls))
    (lines_of-ended cr line rest (Above-lower 13 31 line (omega arith) (Above-spaced (w ∷ []) a b c p.word q.word r.word s.word)))
    ∙ word_lines-alone n line (lines_of rest) (is_continued-plain (w ∷ []) a b c s)
    ∙ ap (λ (ws : List (List ℕ)). (n, ws) ∷ word_lines (joined_from (suc n) (lines_of rest))) (words-plain (w ∷ []) a b c p q r s)
    ∙ ap (λ (m : ℕ). (n, (w ∷ []) ∷ a ∷ b ∷ c ∷ []) ∷ word_lines (joined_from m (lines_of rest))) next
