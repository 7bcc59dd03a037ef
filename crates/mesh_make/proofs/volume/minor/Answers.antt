use Rattle.std.proofs.Common.{arith, ◌≡◌, ◌≤◌, ◌^◌, ℤ, ◌-ℤ◌, ◌*ℤ◌, unsigned_abs, to_z, of_z}
use Rattle.std.proofs.lemmas.Int.{ints}
use Rattle.std.specs.Int.{w32, w128}
use Rattle.mesh_terms.specs.Points.{IsOnGrid}
use Rattle.mesh_make.proofs.volume.minor.Goals as goal

-- a difference of small numbers, as it stands after it was kept at 128 bits
kept : (p q s t : ℤ) → p ≡ s → q ≡ t → unsigned_abs p ≤ 2 ^ 60 → unsigned_abs q ≤ 2 ^ 60 →
    to_z w128 (of_z w128 (to_z w128 (of_z w128 p) -ℤ to_z w128 (of_z w128 q))) ≡ s -ℤ t
kept p q s t e f h k = omega (arith, ints, e, f, h, k)

-- it is small
kept_small : (p q : ℤ) → unsigned_abs p ≤ 2 ^ 60 → unsigned_abs q ≤ 2 ^ 60 →
    unsigned_abs (to_z w128 (of_z w128 (to_z w128 (of_z w128 p) -ℤ to_z w128 (of_z w128 q)))) ≤ 2 ^ 61
kept_small p q h k = omega (arith, ints, h, k)

-- a product of coordinates that were kept at 32 bits is that of the coordinates
of_coordinates : (p x y : ℤ) → IsOnGrid x → IsOnGrid y → p ≡ to_z w32 (of_z w32 x) *ℤ to_z w32 (of_z w32 y) → p ≡ x *ℤ y
of_coordinates p x y h k e =
    let f : to_z w32 (of_z w32 x) ≡ x = omega (arith, ints, h) in
    let g : to_z w32 (of_z w32 y) ≡ y = omega (arith, ints, k) in
    cc

pub returns-clause-value : goal.returns-clause-value
returns-clause-value c =
    let a = c.args in
    let r = c.requires in
    let first = of_coordinates c.product.result a.u a.v r.u_on_grid r.v_on_grid c.product.ensures.value in
    let second = of_coordinates c.product-2.result a.w a.x r.w_on_grid r.x_on_grid c.product-2.ensures.value in
    kept c.product.result c.product-2.result (a.u *ℤ a.v) (a.w *ℤ a.x) first second c.product.ensures.small c.product-2.ensures.small

pub returns-clause-small : goal.returns-clause-small
returns-clause-small c = kept_small c.product.result c.product-2.result c.product.ensures.small c.product-2.ensures.small
