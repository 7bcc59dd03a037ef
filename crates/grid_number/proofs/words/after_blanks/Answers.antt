use Rattle.grid_number.proofs.Positions.{position_or_len-le}
use Rattle.grid_number.proofs.WordSteps.{is_mark, words_of-past_blanks, begins_word-past_blanks}
use Rattle.grid_number.proofs.words.after_blanks.Goals as goal

pub split_at-requires : goal.split_at-requires
split_at-requires c = rw c.first_mark.ensures (position_or_len-le is_mark c.args.text.now)

pub returns-clause-words : goal.returns-clause-words
returns-clause-words c = rw (c.split_at.ensures.back, c.first_mark.ensures) (words_of-past_blanks c.args.text.now)

pub returns-clause-word : goal.returns-clause-word
returns-clause-word c = rw (c.split_at.ensures.back, c.first_mark.ensures) (begins_word-past_blanks c.args.text.now)
