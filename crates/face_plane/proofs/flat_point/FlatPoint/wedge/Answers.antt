use Rattle.std.proofs.Common.{arith, ◌≡◌, ◌≤◌, ◌^◌, ℤ, ◌*ℤ◌, unsigned_abs}
use Rattle.std.proofs.lemmas.Int.{ints}
use Rattle.face_plane.proofs.Sizes.{kept, kept_difference, difference_small}
use Rattle.face_plane.proofs.flat_point.FlatPoint.wedge.Goals as goal

pub overflow_sub-result : goal.overflow_sub-result
overflow_sub-result c =
    let p = c.grid_product.ensures.small in
    let q = c.grid_product-2.ensures.small in
    omega (arith, ints, p, q)

-- a coordinate as it stands after it was kept is itself
same_product : (r x y x' y' : ℤ) → unsigned_abs x ≤ 2 ^ 30 → unsigned_abs y ≤ 2 ^ 30 → x ≡ x' → y ≡ y' → r ≡ kept x *ℤ kept y → r ≡ x' *ℤ y'
same_product r x y x' y' h k e f g =
    let a : kept x ≡ x = omega (arith, ints, h) in
    let b : kept y ≡ y = omega (arith, ints, k) in
    cc

pub returns-clause-value : goal.returns-clause-value
returns-clause-value c =
    let a = c.args.a in
    let b = c.args.b in
    let first = same_product c.grid_product.result c.u.result c.v.result a.0 b.1 c.u.ensures.on_grid c.v.ensures.on_grid c.u.ensures.value c.v.ensures.value
    c.grid_product.ensures.value in
    let second = same_product c.grid_product-2.result c.u-2.result c.v-2.result b.0 a.1 c.u-2.ensures.on_grid c.v-2.ensures.on_grid c.u-2.ensures.value
    c.v-2.ensures.value c.grid_product-2.ensures.value in
    let whole = kept_difference c.grid_product.result c.grid_product-2.result c.grid_product.ensures.small c.grid_product-2.ensures.small in
    cc

pub returns-clause-small : goal.returns-clause-small
returns-clause-small c = difference_small c.grid_product.result c.grid_product-2.result c.grid_product.ensures.small c.grid_product-2.ensures.small
