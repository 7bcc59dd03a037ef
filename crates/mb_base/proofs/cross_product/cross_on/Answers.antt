use Rattle.std.proofs.Common.{arith, ◌≡◌, ◌≤◌, ◌^◌, ℕ, ℤ, ◌-ℤ◌, ◌*ℤ◌, unsigned_abs, List, to_z, of_z}
use Rattle.std.proofs.lemmas.Int.{ints}
use Rattle.std.specs.Int.{w64, w128}
use Rattle.mesh_terms.specs.Points.{coordinate_of}
use Rattle.mb_base.proofs.Widths.{fits_at, same_at, same_difference}
use Rattle.mb_base.proofs.cross_product.cross_on.Goals as goal

-- how far it is from p to q on axis i
abbrev along : ℕ → List ℤ → List ℤ → ℤ
along i p q = coordinate_of q i -ℤ coordinate_of p i

-- a product of steps that were kept at 64 bits is that of the steps
of_steps : (p x y x' y' : ℤ) → p ≡ to_z w64 (of_z w64 x) *ℤ to_z w64 (of_z w64 y) → x ≡ x' → y ≡ y' → unsigned_abs x ≤ 2 ^ 31 → unsigned_abs y ≤ 2 ^ 31 → p ≡ x' *ℤ y'
of_steps p x y x' y' e f g h k =
    let x_same : to_z w64 (of_z w64 x) ≡ x = same_at w64 x (2 ^ 31) h (omega arith) in
    let y_same : to_z w64 (of_z w64 y) ≡ y = same_at w64 y (2 ^ 31) k (omega arith) in
    cc

difference : (d p q p' q' : ℤ) → d ≡ p -ℤ q → p ≡ p' → q ≡ q' → d ≡ p' -ℤ q'
difference d p q p' q' e f g = cc

pub overflow_sub-result : goal.overflow_sub-result
overflow_sub-result c =
    let p = c.product.result in
    let q = c.product-2.result in
    let h = c.product.ensures.small in
    let k = c.product-2.ensures.small in
    rw (same_at w128 p (2 ^ 62) h (omega arith), same_at w128 q (2 ^ 62) k (omega arith)) (fits_at w128 (p -ℤ q) (2 ^ 63) (omega (arith, ints, h, k)) (omega arith))

pub returns-clause-value : goal.returns-clause-value
returns-clause-value c =
    let p = c.product.result in
    let q = c.product-2.result in
    let p' = along c.args.i c.args.a c.args.b *ℤ along c.args.j c.args.a c.args.c in
    let q' = along c.args.j c.args.a c.args.b *ℤ along c.args.i c.args.a c.args.c in
    let s = c.step.ensures in
    let t = c.step-2.ensures in
    let u = c.step-3.ensures in
    let v = c.step-4.ensures in
    difference _ p q p' q' (same_difference w128 p q (2 ^ 62) c.product.ensures.small c.product-2.ensures.small (omega arith))
    (of_steps p c.step.result c.step-2.result (along c.args.i c.args.a c.args.b) (along c.args.j c.args.a c.args.c) c.product.ensures.value s.value t.value s.small t.small)
    (of_steps q c.step-3.result c.step-4.result (along c.args.j c.args.a c.args.b) (along c.args.i c.args.a c.args.c) c.product-2.ensures.value u.value v.value u.small v.small)

pub returns-clause-small : goal.returns-clause-small
returns-clause-small c =
    let p = c.product.result in
    let q = c.product-2.result in
    let h = c.product.ensures.small in
    let k = c.product-2.ensures.small in
    rw (same_difference w128 p q (2 ^ 62) h k (omega arith)) (omega (arith, ints, h, k))
