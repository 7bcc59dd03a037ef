-- Which boxes have a point in common with an area. A box is closed: its rim belongs to it.
use Rattle.std.specs.Prelude.{ℕ, ℤ, pos, ◌≤ℤ◌, Bool, ◌&&◌, List, [], length, get_or}
use Rattle.std.specs.Int.{int_max, int_min}
use Rattle.std.specs.Int.Signed.{le_z}
use Rattle.std.specs.List.{filter}
use Rattle.mb_base.specs.declared.point.Box3.{Box3}
use Rattle.chain_terms.specs.Sums.{upto}

-- the end of a box on axis i, of its list of ends
abbrev pub end_on : ℕ → List ℤ → ℤ
end_on i ends = get_or ends i (pos 0)

-- the point x y z lies in the box
pub record IsIn (b : Box3) (x y z : ℤ) : Type 0 where
  pub low_x : end_on 0 b.low ≤ℤ x
  pub high_x : x ≤ℤ end_on 0 b.high
  pub low_y : end_on 1 b.low ≤ℤ y
  pub high_y : y ≤ℤ end_on 1 b.high
  pub low_z : end_on 2 b.low ≤ℤ z
  pub high_z : z ≤ℤ end_on 2 b.high

-- a point that lies in both boxes
pub record CommonPoint (a b : Box3) : Type 0 where
  pub x : ℤ
  pub y : ℤ
  pub z : ℤ
  pub in_first : IsIn a x y z
  pub in_second : IsIn b x y z

-- the greater low end of two intervals is at most the lesser high end
abbrev pub overlap : ℤ → ℤ → ℤ → ℤ → Bool
overlap low high from to = le_z (int_max low from) (int_min high to)

-- the two boxes overlap on axis i
abbrev pub overlap_on : ℕ → Box3 → Box3 → Bool
overlap_on i a b = overlap (end_on i a.low) (end_on i a.high) (end_on i b.low) (end_on i b.high)

-- the two boxes touch: they overlap on each axis
abbrev pub touches : Box3 → Box3 → Bool
touches a b = overlap_on 0 a b && overlap_on 1 a b && overlap_on 2 a b

-- low is at most high on each axis
pub record IsBox (b : Box3) : Type 0 where
  pub x : end_on 0 b.low ≤ℤ end_on 0 b.high
  pub y : end_on 1 b.low ≤ℤ end_on 1 b.high
  pub z : end_on 2 b.low ≤ℤ end_on 2 b.high

-- a box for numbers that no box has
abbrev pub no_box : Box3
no_box = record { low = []; high = [] }

-- the box of a number
abbrev pub box_at : List Box3 → ℕ → Box3
box_at boxes k = get_or boxes k no_box

-- of some numbers, those whose boxes touch the area
abbrev pub touching_among : List Box3 → Box3 → List ℕ → List ℕ
touching_among boxes area numbers = filter (λ k. touches (box_at boxes k) area) numbers

-- the numbers of the boxes that touch the area
abbrev pub touching_numbers : List Box3 → Box3 → List ℕ
touching_numbers boxes area = touching_among boxes area (upto (length boxes))
