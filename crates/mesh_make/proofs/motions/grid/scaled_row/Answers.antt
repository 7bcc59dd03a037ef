use Rattle.std.proofs.Common.{ap}
use Rattle.mesh_terms.specs.Points.{coordinate_of}
use Rattle.mesh_make.proofs.GridRows.{three, kept_product}
use Rattle.mesh_make.proofs.motions.grid.scaled_row.Goals as goal

pub returns : goal.returns
returns c =
    let f = c.from-factor.result in
    let n = c.args.factor in
    let row = c.row_of.result in
    let p = c.args.point in
    let same = c.row_of.ensures.value in
    let on = c.row_of.ensures.on_grid in
    three _ _ _ _ _ _ (kept_product f n (coordinate_of row 0) (coordinate_of p 0) c.from-factor.ensures c.requires (ap (λ r. coordinate_of r 0) same) on.x)
    (kept_product f n (coordinate_of row 1) (coordinate_of p 1) c.from-factor.ensures c.requires (ap (λ r. coordinate_of r 1) same) on.y)
    (kept_product f n (coordinate_of row 2) (coordinate_of p 2) c.from-factor.ensures c.requires (ap (λ r. coordinate_of r 2) same) on.z)
