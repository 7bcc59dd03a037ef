use Rattle.std.proofs.Common.{◌≡◌, ◌<◌, ℕ, rules, length, drop, take, get_or, sym, ◌∙◌, List, [], ◌∷◌, ap, true, false, refl, arith}
use Rattle.std.specs.Prelude.{◌==◌}
use Rattle.std.specs.List.{position_or_len}
use Rattle.text_terms.specs.Lines.{is_blank, begins_word, before_comment}
use Rattle.obj_text.specs.Lines.{words_left}
use Rattle.grid_number.proofs.Positions.{position_or_len-le}
use Rattle.obj_text.proofs.GoesOn.{before_comment-first}
use Rattle.obj_text.proofs.words.ObjWordsIterator.next.Goals as goal

-- a text with some bytes
some_of : (xs : List ℕ) → (length xs == 0) ≡ false → 0 < length xs
some_of [] h = cc
some_of (x ∷ xs) h = omega arith

-- one word, and the words after it
first_word : (text later word rest : List ℕ) (m : ℕ) → (length text == 0) ≡ false → (0 < length text → begins_word text ≡ true) → (get_or text 0 0 ≡ 35 → ⊥) →
    m ≡ position_or_len is_blank text → word ≡ take m text → rest ≡ drop m text →
    before_comment (words_left text later) ≡ word ∷ before_comment (words_left rest later)
first_word text later word rest m some begins plain g w r =
    before_comment-first text later (begins (some_of text some)) plain ∙ rw (w, r, g) refl

pub split_at-requires : goal.split_at-requires
split_at-requires c = rw c.first_blank.ensures (position_or_len-le is_blank c.next_word.result.0.now)

split : (c : goal.After-later-2-1) → before_comment (words_left c.self.inside.part.now c.self.inside.later.now) ≡ c.split_at.result.0.now ∷ before_comment
    (words_left c.split_at.result.1.now c.next_word.result.1.now)
split c =
    ap before_comment (sym c.next_word.ensures.words)
    ∙ first_word c.next_word.result.0.now c.next_word.result.1.now c.split_at.result.0.now c.split_at.result.1.now c.first_blank.result
    (sym c.is_empty.ensures ∙ c.if-is_empty.false) c.next_word.ensures.word c.if-text-eq35.false c.first_blank.ensures c.split_at.ensures.front c.split_at.ensures.back

pub returns-clause-steps : goal.returns-clause-steps
returns-clause-steps c = sym c.self.view_is ∙ split c

pub returns-clause-goes : goal.returns-clause-goes
returns-clause-goes c =
    let e : c.args.self.now ≡ c.split_at.result.0.now ∷ before_comment (words_left c.split_at.result.1.now c.next_word.result.1.now) = sym c.self.view_is ∙ split c in
    search (rules, e)
