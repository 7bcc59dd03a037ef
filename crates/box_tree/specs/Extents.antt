-- What some coordinates have in common.
use Rattle.std.specs.Prelude.{◌≡◌, ℕ, ℤ, ◌%◌, ◌^◌, ◌≤◌, unsigned_abs}
use Rattle.box_tree.specs.declared.extent.Extent.{Extent}

-- a coordinate ends with the zero bits with which the digits of the extent end, and reaches no farther than it
pub record IsCovered (extent : Extent) (z : ℤ) : Type 0 where
  pub shares : (k : ℕ) → extent.digits % 2 ^ k ≡ 0 → unsigned_abs z % 2 ^ k ≡ 0
  pub within : unsigned_abs z ≤ extent.most
