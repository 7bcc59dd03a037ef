use Rattle.mesh_terms.specs.Points.{coordinate_of}
use Rattle.mesh_make.proofs.GridRows.{three, kept_sum}
use Rattle.mesh_make.proofs.rows.moved_row.Goals as goal

pub returns : goal.returns
returns c =
    let row = c.args.row.now in
    let r = c.requires in
    three _ _ _ _ _ _ (kept_sum (coordinate_of row 0) c.args.x r.on_grid.x r.x_small) (kept_sum (coordinate_of row 1) c.args.y r.on_grid.y r.y_small)
    (kept_sum (coordinate_of row 2) c.args.z r.on_grid.z r.z_small)
