-- Boxes and areas in coarse steps, of a power of two of fine steps: boxes are rounded outwards and areas inwards, each cut off at the
-- ends of an i32. A box whose coordinates are whole numbers of coarse steps loses nothing.
use Rattle.std.specs.Prelude.{◌≡◌, ℕ, ℤ, pos, negsuc, neg_ℤ, ◌*ℤ◌, ◌^◌, ◌-◌, ◌<◌, ◌≤ℤ◌, Bool, ◌&&◌, List, [], ◌∷◌, length, unsigned_abs}
use Rattle.std.specs.Int.{int_shr, int_max, int_min}
use Rattle.std.specs.Int.Signed.{le_z}
use Rattle.mb_base.specs.declared.point.Box3.{Box3}
use Rattle.box_tree.specs.declared.bounds.Range.{Range}
use Rattle.box_tree.specs.declared.bounds.Bounds.{Bounds}
use Rattle.box_tree.specs.Touching.{end_on}

-- a number, cut off at the ends of an i32
abbrev pub cut : ℤ → ℤ
cut z = int_max (negsuc (2 ^ 31 - 1)) (int_min z (pos (2 ^ 31 - 1)))

-- a fine coordinate in coarse steps of 2^shift, rounded down
abbrev pub step_below : ℕ → ℤ → ℤ
step_below shift z = cut (int_shr z shift)

-- a fine coordinate in coarse steps of 2^shift, rounded up
abbrev pub step_above : ℕ → ℤ → ℤ
step_above shift z = cut (neg_ℤ (int_shr (neg_ℤ z) shift))

-- the range of a box on axis i, rounded outwards
abbrev pub range_around : ℕ → ℕ → Box3 → Range
range_around shift i b = record { low = step_below shift (end_on i b.low); high = step_above shift (end_on i b.high) }

-- the range of an area on axis i, rounded inwards
abbrev pub range_inside : ℕ → ℕ → Box3 → Range
range_inside shift i a = record { low = step_above shift (end_on i a.low); high = step_below shift (end_on i a.high) }

-- a box in coarse steps
abbrev pub bounds_around : ℕ → Box3 → Bounds
bounds_around shift b = record { x = range_around shift 0 b; y = range_around shift 1 b; z = range_around shift 2 b }

-- an area in coarse steps
abbrev pub bounds_inside : ℕ → Box3 → Bounds
bounds_inside shift a = record { x = range_inside shift 0 a; y = range_inside shift 1 a; z = range_inside shift 2 a }

-- a number of coarse steps in fine steps
abbrev pub fine : ℕ → ℤ → ℤ
fine shift steps = steps *ℤ pos (2 ^ shift)

-- bounds in fine steps
abbrev pub fine_box : ℕ → Bounds → Box3
fine_box shift b = record {
  low = fine shift b.x.low ∷ fine shift b.y.low ∷ fine shift b.z.low ∷ [];
  high = fine shift b.x.high ∷ fine shift b.y.high ∷ fine shift b.z.high ∷ [];
}

-- a coordinate is a whole number of coarse steps, and that is an i32, though not an end of them
pub record IsWhole (shift : ℕ) (z : ℤ) : Type 0 where
  pub steps : ℤ
  pub exact : z ≡ fine shift steps
  pub few : unsigned_abs steps < 2 ^ 31 - 1

-- three ends, and each is such a number
pub record AreEnds (P : ℤ → Type 0) (ends : List ℤ) : Type 0 where
  pub count : length ends ≡ 3
  pub x : P (end_on 0 ends)
  pub y : P (end_on 1 ends)
  pub z : P (end_on 2 ends)

-- each coordinate of a box is such a number
pub record HasEnds (P : ℤ → Type 0) (b : Box3) : Type 0 where
  pub low : AreEnds P b.low
  pub high : AreEnds P b.high

-- each coordinate of a box is a whole number of coarse steps: its bounds are the box
abbrev pub IsExact : ℕ → Box3 → Type 0
IsExact shift b = HasEnds (IsWhole shift) b

-- no range begins after the other ends
abbrev pub ranges_meet : Range → Range → Bool
ranges_meet a b = le_z a.low b.high && le_z b.low a.high

-- the bounds meet on each axis
abbrev pub bounds_meet : Bounds → Bounds → Bool
bounds_meet a b = ranges_meet a.x b.x && ranges_meet a.y b.y && ranges_meet a.z b.z

-- the outer range takes in the inner
pub record IsRangeIn (inner outer : Range) : Type 0 where
  pub low : outer.low ≤ℤ inner.low
  pub high : inner.high ≤ℤ outer.high

-- the outer bounds take in the inner on each axis
pub record IsBoundsIn (inner outer : Bounds) : Type 0 where
  pub x : IsRangeIn inner.x outer.x
  pub y : IsRangeIn inner.y outer.y
  pub z : IsRangeIn inner.z outer.z
