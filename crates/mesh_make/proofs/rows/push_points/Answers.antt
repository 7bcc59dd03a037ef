use Rattle.std.proofs.Common.{get_or, [], refl}
use Rattle.mesh_make.proofs.GridRows.{has_point, row_on_grid}
use Rattle.mesh_make.proofs.rows.push_points.Goals as goal

pub unreachable-requires : goal.unreachable-requires
unreachable-requires c =
    let row = get_or c.args.rows.now c.loop-row.row-index [] in
    has_point row row c.point_of.result c.point_of.ensures refl (row_on_grid c.args.rows.now c.loop-row.row-index c.requires c.loop-row-test.true) c.in-None.is
