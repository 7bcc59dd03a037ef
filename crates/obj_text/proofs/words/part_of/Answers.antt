use Rattle.std.proofs.Common.{◌∙◌, sym}
use Rattle.obj_text.proofs.GoesOn.{words_left-continued}
use Rattle.obj_text.proofs.words.part_of.Goals as goal

pub returns-then-is_continued-clause-words : goal.returns-then-is_continued-clause-words
returns-then-is_continued-clause-words c =
    rw c.split_at.ensures.front (words_left-continued c.args.line.now c.args.after.now (sym c.is_continued.ensures ∙ c.if-is_continued.true))
