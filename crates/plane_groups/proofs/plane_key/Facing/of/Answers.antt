use Rattle.std.proofs.Common.{◌≡◌, ◌∷◌, ◌∙◌, [], ap, of_z, pos, rules, sym, to_z}
use Rattle.std.specs.Int.{w128}
use Rattle.std.specs.Cmp.Lexicographic.{pointwise_decides}
use Rattle.std.proofs.lemmas.Bool.Decides.{Decides-int_eq}
use Rattle.mesh_terms.specs.Points.{cross_on, cross_product}
use Rattle.sheet_terms.specs.Cuts.{is_none}
use Rattle.sheet_terms.specs.Twins.{is_up}
use Rattle.plane_groups.specs.Keys.{front_normal}
use Rattle.plane_groups.proofs.Fronts.{key_is, some_normal}
use Rattle.plane_groups.proofs.plane_key.Facing.of.Goals as goal

pub returns-then-eq-clause-flat : goal.returns-then-eq-clause-flat
returns-then-eq-clause-flat c =
    ap is_none (sym c.cross-longer.ensures.value ∙ (pointwise_decides Decides-int_eq c.cross-longer.result (pos 0 ∷ pos 0 ∷ pos 0 ∷ [])).0 (sym c.eq.ensures ∙ c.if-eq.true))

pub primitive-normal-requires-clause-some : goal.primitive-normal-requires-clause-some
primitive-normal-requires-clause-some c =
    some_normal c.cross-longer.result (cross_on 1 2 c.args.a c.args.b c.args.c) (cross_on 2 0 c.args.a c.args.b c.args.c) (cross_on 0 1 c.args.a c.args.b c.args.c)
    c.cross-longer.ensures.value (sym c.eq.ensures ∙ c.if-eq.false)

pub returns-clause-bent : goal.returns-clause-bent
returns-clause-bent c =
    ap is_none (sym c.cross-longer.ensures.value)
    ∙ some_normal c.cross-longer.result (cross_on 1 2 c.args.a c.args.b c.args.c) (cross_on 2 0 c.args.a c.args.b c.args.c) (cross_on 0 1 c.args.a c.args.b c.args.c)
    c.cross-longer.ensures.value (sym c.eq.ensures ∙ c.if-eq.false)

pub returns-clause-plane : goal.returns-clause-plane
returns-clause-plane c =
    let kept : to_z w128 (of_z w128 c.scalar-level.result) ≡ c.scalar-level.result = search rules in
    key_is c.primitive-normal.result (front_normal (cross_product c.args.a c.args.b c.args.c)) c.args.a _
    (c.primitive-normal.ensures.value ∙ ap front_normal c.cross-longer.ensures.value) (kept ∙ c.scalar-level.ensures)

pub returns-clause-front : goal.returns-clause-front
returns-clause-front c = c.is_front-front.ensures ∙ ap is_up c.cross-longer.ensures.value
