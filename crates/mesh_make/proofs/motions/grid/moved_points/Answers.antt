use Rattle.std.proofs.Common.{◌≡◌, true, get_or, [], subst, sym, ◌∙◌}
use Rattle.std.proofs.lemmas.List.{get_or_default}
use Rattle.made_terms.specs.Refusals.{is_grid_point}
use Rattle.mesh_make.specs.Moves.{moves}
use Rattle.mesh_make.proofs.GridRows.{has_point, on_grid_at}
use Rattle.mesh_make.proofs.motions.grid.moved_points.Goals as goal

pub unreachable-requires : goal.unreachable-requires
unreachable-requires c =
    let f = moves c.args.motion.now in
    let points = c.args.points.now in
    let i = c.loop-point.point-index in
    let item : get_or points i [] ≡ c.point-item.result = get_or_default points i [] c.point-item.result c.loop-point-test.true ∙ sym c.point-item.is in
    let on = subst (λ p. is_grid_point (f p) ≡ true) item (on_grid_at f points i c.requires.stay c.loop-point-test.true) in
    has_point c.row_after.result (f c.point-item.result) c.point_of.result c.point_of.ensures c.row_after.ensures on c.in-None.is
