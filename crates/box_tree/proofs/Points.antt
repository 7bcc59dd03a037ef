-- Boxes that overlap on each axis have a common point, and back.
use Rattle.std.proofs.Common.{◌≡◌, ℤ, ◌&&◌, true, arith}
use Rattle.std.specs.Prelude.{◌≤ℤ◌}
use Rattle.std.specs.Int.{int_max, int_min}
use Rattle.std.specs.Int.Signed.{le_z}
use Rattle.std.proofs.lemmas.Int.{ints, clamps}
use Rattle.std.proofs.lemmas.Bool.{and_parts, and_from}
use Rattle.mb_base.specs.declared.point.Box3.{Box3}
use Rattle.box_tree.specs.Touching.{end_on, overlap, overlap_on, touches, CommonPoint}

-- z lies in two intervals
pub record IsBetween (low high from to z : ℤ) : Type 0 where
  pub after_low : low ≤ℤ z
  pub before_high : z ≤ℤ high
  pub after_from : from ≤ℤ z
  pub before_to : z ≤ℤ to

-- the test of an order
pub le_from_test : (a b : ℤ) → le_z a b ≡ true → a ≤ℤ b
le_from_test a b h = grind (arith, ints, h)

-- and back
pub test_from_le : (a b : ℤ) → a ≤ℤ b → le_z a b ≡ true
test_from_le a b h = grind (arith, ints, h)

-- where two intervals overlap, the greater low end lies in both
pub overlap_meets : (low high from to : ℤ) → overlap low high from to ≡ true → IsBetween low high from to (int_max low from)
overlap_meets low high from to h =
    let e = le_from_test (int_max low from) (int_min high to) h in
    record {
      after_low = omega (arith, ints, clamps);
      before_high = omega (arith, ints, clamps, e);
      after_from = omega (arith, ints, clamps);
      before_to = omega (arith, ints, clamps, e);
    }

-- intervals with a number in common overlap
pub meets_overlap : (low high from to z : ℤ) → IsBetween low high from to z → overlap low high from to ≡ true
meets_overlap low high from to z h = test_from_le (int_max low from) (int_min high to) (omega (arith, ints, clamps, h.after_low, h.before_high, h.after_from, h.before_to))

-- boxes that touch have a common point
pub touching_common : (a b : Box3) → touches a b ≡ true → CommonPoint a b
touching_common a b h =
    let outer = and_parts (overlap_on 0 a b && overlap_on 1 a b) (overlap_on 2 a b) h in
    let inner = and_parts (overlap_on 0 a b) (overlap_on 1 a b) outer.0 in
    let x = overlap_meets (end_on 0 a.low) (end_on 0 a.high) (end_on 0 b.low) (end_on 0 b.high) inner.0 in
    let y = overlap_meets (end_on 1 a.low) (end_on 1 a.high) (end_on 1 b.low) (end_on 1 b.high) inner.1 in
    let z = overlap_meets (end_on 2 a.low) (end_on 2 a.high) (end_on 2 b.low) (end_on 2 b.high) outer.1 in
    record {
      x = int_max (end_on 0 a.low) (end_on 0 b.low);
      y = int_max (end_on 1 a.low) (end_on 1 b.low);
      z = int_max (end_on 2 a.low) (end_on 2 b.low);
      in_first = record { low_x = x.after_low; high_x = x.before_high; low_y = y.after_low; high_y = y.before_high; low_z = z.after_low; high_z = z.before_high };
      in_second = record { low_x = x.after_from; high_x = x.before_to; low_y = y.after_from; high_y = y.before_to; low_z = z.after_from; high_z = z.before_to };
    }

-- boxes with a common point touch
pub common_touching : (a b : Box3) → CommonPoint a b → touches a b ≡ true
common_touching a b p =
    let x = meets_overlap (end_on 0 a.low) (end_on 0 a.high) (end_on 0 b.low) (end_on 0 b.high) p.x
    (record { after_low = p.in_first.low_x; before_high = p.in_first.high_x; after_from = p.in_second.low_x; before_to = p.in_second.high_x }) in
    let y = meets_overlap (end_on 1 a.low) (end_on 1 a.high) (end_on 1 b.low) (end_on 1 b.high) p.y
    (record { after_low = p.in_first.low_y; before_high = p.in_first.high_y; after_from = p.in_second.low_y; before_to = p.in_second.high_y }) in
    let z = meets_overlap (end_on 2 a.low) (end_on 2 a.high) (end_on 2 b.low) (end_on 2 b.high) p.z
    (record { after_low = p.in_first.low_z; before_high = p.in_first.high_z; after_from = p.in_second.low_z; before_to = p.in_second.high_z }) in
    and_from (overlap_on 0 a b && overlap_on 1 a b) (overlap_on 2 a b) (and_from (overlap_on 0 a b) (overlap_on 1 a b) x y) z
