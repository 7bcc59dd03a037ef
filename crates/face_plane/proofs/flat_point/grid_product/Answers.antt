use Rattle.std.proofs.Common.{arith, ◌≤◌, ◌^◌, ℤ, unsigned_abs, subst, sym}
use Rattle.face_plane.proofs.Sizes.{kept_product, product_small}
use Rattle.face_plane.proofs.flat_point.grid_product.Goals as goal

pub returns-clause-value : goal.returns-clause-value
returns-clause-value c = kept_product c.args.x c.args.y (omega (arith, c.requires.x_grid)) (omega (arith, c.requires.y_grid))

pub returns-clause-small : goal.returns-clause-small
returns-clause-small c =
    subst (λ (z : ℤ). unsigned_abs z ≤ 2 ^ 60) (sym (kept_product c.args.x c.args.y (omega (arith, c.requires.x_grid)) (omega (arith, c.requires.y_grid))))
    (product_small c.args.x c.args.y (2 ^ 30) (2 ^ 30) c.requires.x_grid c.requires.y_grid)
