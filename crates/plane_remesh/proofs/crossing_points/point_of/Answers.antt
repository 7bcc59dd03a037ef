use Rattle.std.proofs.Common.{FitsSigned, get_or, pos, rules, w32}
use Rattle.std.proofs.lemmas.Int.{to_z-of_z}
use Rattle.plane_remesh.proofs.PointOrder.{point_is}
use Rattle.plane_remesh.proofs.crossing_points.point_of.Goals as goal

pub returns : goal.returns
returns c =
    let at = c.args.at.now in
    let x : FitsSigned w32 (get_or at 0 (pos 0)) = search rules in
    let y : FitsSigned w32 (get_or at 1 (pos 0)) = search rules in
    let z : FitsSigned w32 (get_or at 2 (pos 0)) = search rules in
    point_is at c.of.result _ _ _ (to_z-of_z w32 (get_or at 0 (pos 0)) x) (to_z-of_z w32 (get_or at 1 (pos 0)) y) (to_z-of_z w32 (get_or at 2 (pos 0)) z) c.told-at
    c.of.ensures.on_grid c.of.ensures.value
