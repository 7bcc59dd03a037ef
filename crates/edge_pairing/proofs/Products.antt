-- Products of steps and coordinates are small.
use Rattle.std.proofs.Common.{◌≡◌, ◌≤◌, ◌^◌, ℕ, ℤ, ◌+ℤ◌, ◌*ℤ◌, unsigned_abs, to_z, of_z, w32, w64, List, ap, arith}
use Rattle.std.proofs.lemmas.Int.{ints, unsigned_abs-mul, fits_signed_mul, to_z-of_z}
use Rattle.std.proofs.Math.Nat.{mul-le-mul}
use Rattle.mesh_terms.specs.Points.{IsOnGrid, coordinate_of}

-- a product of numbers of at most 2^31 and 2^30
pub product_small : (s z : ℤ) → unsigned_abs s ≤ 2 ^ 31 → unsigned_abs z ≤ 2 ^ 30 → unsigned_abs (s *ℤ z) ≤ 2 ^ 61
product_small s z h k = omega (arith, unsigned_abs-mul s z, mul-le-mul h k)

-- such a product as it stands after it was kept at 64 bits
pub product_kept : (s z s' z' : ℤ) → s' ≡ s → z' ≡ z → unsigned_abs s ≤ 2 ^ 31 → unsigned_abs z ≤ 2 ^ 30 → to_z w64 (of_z w64 (s' *ℤ z')) ≡ s *ℤ z
product_kept s z s' z' e f h k = rw (e, f) (to_z-of_z w64 (s *ℤ z) (fits_signed_mul w64 s z (2 ^ 31) (2 ^ 30) h k (omega arith)))

-- three of them, added up at 64 bits
pub sum_kept : (p q r p' q' r' : ℤ) → p ≡ p' → q ≡ q' → r ≡ r' → unsigned_abs p ≤ 2 ^ 61 → unsigned_abs q ≤ 2 ^ 61 → unsigned_abs r ≤ 2 ^ 61 →
    to_z w64 (of_z w64 (to_z w64 (of_z w64 (to_z w64 (of_z w64 p) +ℤ to_z w64 (of_z w64 q))) +ℤ to_z w64 (of_z w64 r))) ≡ p' +ℤ q' +ℤ r'
sum_kept p q r p' q' r' e f g h k l = omega (arith, ints, e, f, g, h, k, l)

-- a product as a callee gives it, of a step and a coordinate that was kept at 32 bits
pub product_read : (p s : ℤ) (at point : List ℤ) (i : ℕ) → at ≡ point → unsigned_abs s ≤ 2 ^ 31 → IsOnGrid (coordinate_of point i) →
    p ≡ to_z w64 (of_z w64 s) *ℤ to_z w32 (of_z w32 (coordinate_of at i)) →
    p ≡ s *ℤ coordinate_of point i
product_read p s at point i same h k e =
    let f : to_z w64 (of_z w64 s) ≡ s = omega (arith, ints, h) in
    let there : coordinate_of at i ≡ coordinate_of point i = ap (λ l. coordinate_of l i) same in
    let g : to_z w32 (of_z w32 (coordinate_of at i)) ≡ coordinate_of point i = omega (arith, ints, there, k) in
    cc
