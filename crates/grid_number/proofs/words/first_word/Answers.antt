use Rattle.std.proofs.Common.{◌≡◌, ◌<◌, ℕ, false, List, [], ◌∷◌, length, sym, ◌∙◌, refl, arith}
use Rattle.std.specs.Prelude.{◌==◌}
use Rattle.text_terms.specs.Lines.{is_blank}
use Rattle.grid_number.proofs.Positions.{position_or_len-le}
use Rattle.grid_number.proofs.WordSteps.{words_of-first}
use Rattle.grid_number.proofs.words.first_word.Goals as goal

-- a text with some bytes
some_of : (xs : List ℕ) → (length xs == 0) ≡ false → 0 < length xs
some_of [] h = cc
some_of (x ∷ xs) h = omega arith

pub split_at-requires : goal.split_at-requires
split_at-requires c = rw c.first_blank.ensures (position_or_len-le is_blank c.after_blanks-text.result.now)

pub returns-clause-word : goal.returns-clause-word
returns-clause-word c =
    let text = c.after_blanks-text.result.now in
    let begins = c.after_blanks-text.ensures.word (some_of text (sym c.is_empty.ensures ∙ c.if-is_empty.false)) in
    sym c.after_blanks-text.ensures.words ∙ words_of-first text begins ∙ rw (c.split_at.ensures.front, c.split_at.ensures.back, c.first_blank.ensures) refl
