use Rattle.std.proofs.Common.{◌∙◌, sym, ap}
use Rattle.text_terms.specs.Lines.{begins_comment}
use Rattle.obj_text.proofs.GoesOn.{begins_comment-first}
use Rattle.obj_text.proofs.words.begins_comment.Goals as goal

pub returns : goal.returns
returns c =
    c.is_comment.ensures
    ∙ sym (begins_comment-first c.after_blanks.result.now c.after_blanks.ensures.word)
    ∙ ap begins_comment c.after_blanks.ensures.words
