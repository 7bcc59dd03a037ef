-- Small numbers as they stand in their bits.
use Rattle.std.proofs.Common.{◌≡◌, ◌≤◌, ◌^◌, ℤ, nat_abs, to_z, of_z, w32, w64, arith, subst, sym}
use Rattle.std.proofs.lemmas.Int.{fits_signed_from_abs, ints, to_z-of_z}
use Rattle.mesh_terms.specs.Points.{IsOnGrid}
use Rattle.side_terms.specs.Fine.{IsFine}
use Rattle.cross_section.specs.Small.{IsSmall}

-- from -1 to 1
pub kept : (z : ℤ) → IsSmall z → to_z w64 (of_z w64 z) ≡ z
kept z h = omega (arith, ints, h.low, h.high)

pub kept_small : (z : ℤ) → IsSmall z → IsSmall (to_z w64 (of_z w64 z))
kept_small z h = subst IsSmall (sym (kept z h)) h

-- a coordinate of the grid, the difference of two, and a fine one
pub kept_grid : (z : ℤ) → IsOnGrid z → to_z w32 (of_z w32 z) ≡ z
kept_grid z h = to_z-of_z w32 z (fits_signed_from_abs w32 z (omega (arith, h)))

pub kept_step : (z : ℤ) → nat_abs z ≤ 2 ^ 32 → to_z w64 (of_z w64 z) ≡ z
kept_step z h = omega (arith, ints, h)

pub kept_fine : (z : ℤ) → IsFine z → to_z w64 (of_z w64 z) ≡ z
kept_fine z h = omega (arith, ints, h.low, h.high)
