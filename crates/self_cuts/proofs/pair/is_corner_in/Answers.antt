use Rattle.std.proofs.Common.{◌≡◌, ◌∙◌, Bool, ap, of_z, rules, to_z}
use Rattle.std.specs.Int.{w128}
use Rattle.std.specs.Prelude.{◌&&◌}
use Rattle.inspection_laws.specs.Signs.{is_zero, lies_inside, seen_along}
use Rattle.self_cuts.specs.Faces.{corners}
use Rattle.self_cuts.specs.Places.{normal, place}
use Rattle.self_cuts.proofs.pair.is_corner_in.Goals as goal

pub returns-then-is_zero : goal.returns-then-is_zero
returns-then-is_zero c =
    let back : to_z w128 (of_z w128 c.args.over) ≡ c.args.over = search rules in
    c.is_inside.ensures
    ∙ ap (λ (b : Bool). b && lies_inside (seen_along (normal c.args.o.now.normal)) (place c.args.p.now) (corners c.args.o.now))
    (c.if-is_zero.ensures ∙ ap is_zero (back ∙ c.requires))

pub returns-else-is_zero : goal.returns-else-is_zero
returns-else-is_zero c =
    let back : to_z w128 (of_z w128 c.args.over) ≡ c.args.over = search rules in
    c.if-is_zero.false
    ∙ ap (λ (b : Bool). b && lies_inside (seen_along (normal c.args.o.now.normal)) (place c.args.p.now) (corners c.args.o.now))
    (c.if-is_zero.ensures ∙ ap is_zero (back ∙ c.requires))
