use Rattle.std.proofs.Common.{◌*ℤ◌, arith}
use Rattle.std.proofs.lemmas.Int.{ints}
use Rattle.mesh_terms.specs.Points.{coordinate_of}
use Rattle.edge_pairing.proofs.Products.{product_read, sum_kept}
use Rattle.edge_pairing.proofs.direction.key.Goals as goal

pub overflow_add-result : goal.overflow_add-result
overflow_add-result c = omega (arith, ints, c.product.ensures.small, c.product-2.ensures.small)

pub overflow_add-result-2 : goal.overflow_add-result-2
overflow_add-result-2 c = omega (arith, ints, c.product.ensures.small, c.product-2.ensures.small, c.product-3.ensures.small)

pub returns : goal.returns
returns c =
    let d = c.args.along.now in
    let p = c.args.point in
    let grid = c.at.ensures.on_grid in
    let same = c.at.ensures.value in
    sum_kept c.product.result c.product-2.result c.product-3.result (coordinate_of d 0 *ℤ coordinate_of p 0) (coordinate_of d 1 *ℤ coordinate_of p 1)
    (coordinate_of d 2 *ℤ coordinate_of p 2)
    (product_read c.product.result (coordinate_of d 0) c.at.result p 0 same c.requires.x grid.x c.product.ensures.value)
    (product_read c.product-2.result (coordinate_of d 1) c.at.result p 1 same c.requires.y grid.y c.product-2.ensures.value)
    (product_read c.product-3.result (coordinate_of d 2) c.at.result p 2 same c.requires.z grid.z c.product-3.ensures.value)
    c.product.ensures.small c.product-2.ensures.small c.product-3.ensures.small
