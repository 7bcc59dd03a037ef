use Rattle.std.proofs.Common.{ℕ, List, ◌++◌, map, take, ap, ◌∙◌, sym}
use Rattle.format_terms.specs.ObjLabels.{label_byte}
use Rattle.obj_text.specs.Groups.{put_behind}
use Rattle.obj_text.proofs.LabelSteps.{after_blank}
use Rattle.obj_text.proofs.groups.push_next.Goals as goal

pub returns-else-first : goal.returns-else-first
returns-else-first c =
    let old = c.args.label.now.items in
    let word = map label_byte c.args.word.now in
    c.push_word-else-first.ensures
    ∙ ap (λ (bs : List ℕ). take 64 (bs ++ word)) c.push_byte.ensures
    ∙ after_blank old word
    ∙ λ i. take 64 (old ++ put_behind (sym c.if-first.false i) word)
