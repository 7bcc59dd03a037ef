-- Small numbers as they stand at their widths.
use Rattle.std.proofs.Common.{◌≡◌, ◌≤◌, ℤ, nat_abs, to_z, of_z, w8, w64, arith}
use Rattle.std.proofs.lemmas.Int.{ints}

-- of 64 bits
pub kept_64 : (z : ℤ) → nat_abs z ≤ 1000001 → to_z w64 (of_z w64 z) ≡ z
kept_64 z h = omega (arith, ints, h)

-- of 8
pub kept_8 : (z : ℤ) → nat_abs z ≤ 1 → to_z w8 (of_z w8 z) ≡ z
kept_8 z h = omega (arith, ints, h)
