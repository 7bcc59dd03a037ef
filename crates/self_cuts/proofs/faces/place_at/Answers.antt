use Rattle.std.proofs.Common.{◌<◌, [], ap, arith, get_or, length, ◌∙◌}
use Rattle.std.proofs.lemmas.List.{get_or_read}
use Rattle.inspection_terms.specs.Triangles.{place_of}
use Rattle.self_cuts.proofs.faces.place_at.Goals as goal

pub bounds-points-v : goal.bounds-points-v
bounds-points-v c = omega (arith, c.requires, ap length c.points-points.ensures.value)

pub returns : goal.returns
returns c =
    let points = c.points-points.result.now in
    let low : c.args.v < length points = omega (arith, c.requires, ap length c.points-points.ensures.value) in
    c.place_of.ensures
    ∙ ap place_of (get_or_read points c.args.v c.index-points-v.result low c.index-points-v.is [] ∙ ap (λ ps. get_or ps c.args.v []) c.points-points.ensures.value)
