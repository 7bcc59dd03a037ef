use Rattle.std.proofs.Common.{◌≡◌, ◌∙◌, ◌<ℤ◌, ap, of_z, pos, rules, to_z}
use Rattle.std.specs.Int.{w128}
use Rattle.mesh_terms.specs.Points.{coordinate_of}
use Rattle.plane_groups.specs.Keys.{common_of}
use Rattle.plane_groups.proofs.Fronts.{above_kept, common_read}
use Rattle.plane_groups.proofs.FrontNormals.{common_some}
use Rattle.plane_groups.proofs.plane_key.primitive.Goals as goal
use Rattle.plane_groups.proofs.plane_key.primitive.Goals.{After-divisor_of-common}

-- the common divisor is above 0
common_above : (c : After-divisor_of-common) → pos 0 <ℤ to_z w128 (of_z w128 c.divisor_of-common.result)
common_above c =
    let n = c.args.normal in
    let r = c.divisor_of-common.result in
    let kept : to_z w128 (of_z w128 r) ≡ r = search rules in
    let x : to_z w128 (of_z w128 (coordinate_of n 0)) ≡ coordinate_of n 0 = search rules in
    let y : to_z w128 (of_z w128 (coordinate_of n 1)) ≡ coordinate_of n 1 = search rules in
    let z : to_z w128 (of_z w128 (coordinate_of n 2)) ≡ coordinate_of n 2 = search rules in
    above_kept r (common_of n) kept (c.divisor_of-common.ensures ∙ ap pos (common_read n _ _ _ x y z)) (common_some n c.requires.some)

pub front_part-requires-clause-some : goal.front_part-requires-clause-some
front_part-requires-clause-some c = common_above c

pub front_part-requires-2-clause-some : goal.front_part-requires-2-clause-some
front_part-requires-2-clause-some c = common_above (goal.at.front_part-requires-2-clause-some c).After-divisor_of-common

pub front_part-requires-3-clause-some : goal.front_part-requires-3-clause-some
front_part-requires-3-clause-some c = common_above (goal.at.front_part-requires-3-clause-some c).After-divisor_of-common
