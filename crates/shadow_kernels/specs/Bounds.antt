-- What lies in a box, or is below one, and what the code keeps of boundary pairs.
use Rattle.std.specs.Prelude.{◌≡◌, true, false, ℕ, ◌<◌, ℤ, pos, neg_ℤ, ◌+ℤ◌, ◌-ℤ◌, ◌≤ℤ◌, ◌<ℤ◌, List, length, slice_index_or, Option, IfSome}
use Rattle.std.specs.List.{All}
use Rattle.std.proofs.Common.{arith, inl, inr}
use Rattle.std.proofs.lemmas.Int.{ints}
use Rattle.mb_base.specs.declared.point.Corner.{Corner}
use Rattle.side_terms.specs.Fine.{fine_edge, IsFine, IsWeight, LiesBetween}
use Rattle.side_terms.specs.Corners.{axis, corner_at, blank_corner, AllFine}
use Rattle.shadow_kernels.specs.ShadowLaws.{IsInHull}
use Rattle.shadow_kernels.specs.declared.Spot.{Spot}
use Rattle.shadow_kernels.specs.declared.Meet.{Meet}
use Rattle.shadow_kernels.specs.declared.tally.Tally.{Tally}
use Rattle.shadow_kernels.specs.Spots.{gap}
use Rattle.shadow_kernels.specs.Counts.{first_spot, lifted_count}
use Rattle.side_terms.specs.Boxes.{IsInBox, IsBelow}
use Rattle.shadow_kernels.specs.Sizes.{IsSized}

-- a corner of the list lies in the list's box
pub corner_in_box : (i : ℕ) (ps : List Corner) (j : ℕ) → j < length ps → IsInBox i ps (axis i (corner_at ps j))
corner_in_box i ps j h = record { low = λ l all. all j blank_corner h; high = λ u all. all j blank_corner h }

-- what lies between two values in a box lies in the box
pub box_between : (i : ℕ) (ps : List Corner) (u v z : ℤ) → IsInBox i ps u → IsInBox i ps v → LiesBetween u v z → IsInBox i ps z
box_between i ps u v z a b (inl h) = record {
  low = λ l all. let k = a.low l all in omega (arith, ints, h.0);
  high = λ l all. let k = b.high l all in omega (arith, ints, h.1);
}
box_between i ps u v z a b (inr h) = record {
  low = λ l all. let k = b.low l all in omega (arith, ints, h.0);
  high = λ l all. let k = a.high l all in omega (arith, ints, h.1);
}

-- of two boxes strictly apart the values of the lower one are below those of the other
pub box_below : (i : ℕ) (ps qs : List Corner) (y z : ℤ) → IsBelow i ps qs → IsInBox i ps y → IsInBox i qs z → y <ℤ z
box_below i ps qs y z h a b =
    let each : All (λ q. (y +ℤ pos 1) ≤ℤ axis i q) qs = λ k d lt.
    let top = a.high (axis i (slice_index_or qs k d) -ℤ pos 1) (λ j e less. let x = h.below j e less k d lt in omega (arith, ints, x)) in omega (arith, ints, top) in
    let low = b.low (y +ℤ pos 1) each in
    omega (arith, ints, low)

-- all corners of a list are fine on each of the three axes
pub record AllFineOn (i : ℕ) (ps : List Corner) : Type 0 where
  pub each : All (λ p. IsFine (axis i p)) ps

-- the values in a box of fine corners are fine
pub box_fine : (i : ℕ) (ps : List Corner) (z : ℤ) → AllFineOn i ps → IsInBox i ps z → IsFine z
box_fine i ps z h a = record {
  low = a.low (neg_ℤ fine_edge) (λ k d lt. (h.each k d lt).low);
  high = a.high fine_edge (λ k d lt. (h.each k d lt).high);
}

-- all five values of a spot are fine
pub record IsFineSpot (s : Spot) : Type 0 where
  pub x : IsFine s.x
  pub py : IsFine s.py
  pub qy : IsFine s.qy
  pub pz : IsFine s.pz
  pub qz : IsFine s.qz

-- the gap of a spot in y
pub record IsGapOf (s : Spot) (a : ℤ) : Type 0 where
  pub value : a ≡ gap s.py s.qy
  pub weight : IsWeight a

-- a spot in the hull of fine corners is fine
pub hull_fine : (ps qs : List Corner) (s : Spot) → AllFine ps → AllFine qs → IsInHull ps qs s → IsFineSpot s
hull_fine ps qs s a b h = record {
  x = box_fine 0 ps s.x (record { each = λ k d lt. (a k d lt).x }) h.px;
  py = box_fine 1 ps s.py (record { each = λ k d lt. (a k d lt).y }) h.py;
  qy = box_fine 1 qs s.qy (record { each = λ k d lt. (b k d lt).y }) h.qy;
  pz = box_fine 2 ps s.pz (record { each = λ k d lt. (a k d lt).z }) h.pz;
  qz = box_fine 2 qs s.qz (record { each = λ k d lt. (b k d lt).z }) h.qz;
}

-- a boundary pair whose count is 1 or -1, if there is an answer, with a fine spot
pub record IsFinePair (m : Option Meet) : Type 0 where
  pub sized : IsSized m
  pub fine : IfSome m (λ n. IsFineSpot n.spot)

-- the sum of the shadows of boundary pairs, and the first spots that are not above and that are
pub record IsTallyOf (ms : List (Option Meet)) (s : Tally) : Type 0 where
  pub count : s.count ≡ lifted_count ms
  pub below : s.below ≡ first_spot false ms
  pub above : s.above ≡ first_spot true ms

-- the two spots are fine
pub record IsFineTally (s : Tally) : Type 0 where
  pub below : IsFineSpot s.below
  pub above : IsFineSpot s.above
