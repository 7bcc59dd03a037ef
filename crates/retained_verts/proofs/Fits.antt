-- Small numbers as they stand at their widths.
use Rattle.std.proofs.Common.{◌≡◌, ◌≤◌, ◌^◌, ℤ, nat_abs, to_z, of_z, w8, w64, arith}
use Rattle.std.proofs.lemmas.Int.{ints}
use Rattle.side_terms.specs.Hits.{IsNumber}

-- of 64 bits
pub kept_64 : (z : ℤ) → nat_abs z ≤ 2 ^ 40 → to_z w64 (of_z w64 z) ≡ z
kept_64 z h = omega (arith, ints, h)

-- of 8
pub kept_8 : (z : ℤ) → IsNumber z → to_z w8 (of_z w8 z) ≡ z
kept_8 z h = omega (arith, ints, h.low, h.high)
