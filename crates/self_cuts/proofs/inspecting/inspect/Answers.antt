use Rattle.std.proofs.Common.{◌∙◌, ap, arith, length, subst, sym}
use Rattle.inspection_terms.specs.Inspected.{doubled_count, high_corner, low_corner}
use Rattle.inspection_laws.specs.Sharing.{AreFirsts}
use Rattle.self_cuts.proofs.inspecting.inspect.Goals as goal

pub firsts-requires : goal.firsts-requires
firsts-requires c = let few = c.points-points.ensures.accepted.mesh.few_points in omega (arith, ap length c.points-points.ensures.value, few)

pub touching-requires : goal.touching-requires
touching-requires c =
    subst (AreFirsts c.args.mesh.now.points) (sym c.deref.ensures.value)
    (subst (λ ps. AreFirsts ps c.in_ok-firsts.firsts.of.items) c.points-points.ensures.value c.in_ok-firsts.ensures.of)

pub returns-clause-low : goal.returns-clause-low
returns-clause-low c = c.low_corner.ensures ∙ ap low_corner c.points-points.ensures.value

pub returns-clause-high : goal.returns-clause-high
returns-clause-high c = c.high_corner.ensures ∙ ap high_corner c.points-points.ensures.value

pub returns-clause-doubled : goal.returns-clause-doubled
returns-clause-doubled c = c.in_ok-firsts.ensures.doubled ∙ ap doubled_count c.points-points.ensures.value
