use Rattle.std.proofs.Common.{[], ◌∙◌}
use Rattle.std.proofs.lemmas.List.{get_or_default}
use Rattle.outline_terms.specs.Outlines.{marks_between}
use Rattle.cross_section.proofs.numbers.marks.marks_at.Goals as goal

pub returns : goal.returns
returns c =
    let points = c.args.points.now in
    let a = c.index-points-a.is ∙ get_or_default points c.args.a c.index-points-a.result [] c.requires.a in
    let b = c.index-points-b.is ∙ get_or_default points c.args.b c.index-points-b.result [] c.requires.b in
    c.marks_between.ensures ∙ (λ i. marks_between c.args.op (a i) (b i))
