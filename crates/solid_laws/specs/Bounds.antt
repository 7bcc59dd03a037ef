-- Corners whose coordinates have a bound, and a number that is more than their distances and the numbers of their normals.
use Rattle.std.specs.Prelude.{ℤ, pos, neg_ℤ, ◌+ℤ◌, ◌-ℤ◌, ◌*ℤ◌, ◌≤ℤ◌, ◌<ℤ◌}
use Rattle.std.proofs.Common.{arith}
use Rattle.std.proofs.lemmas.Int.{ints}
use Rattle.chain_laws.specs.Products.{mul-add, mul-sub, add-mul, sub-mul}
use Rattle.mb_base.specs.declared.point.Corner.{Corner}
use Rattle.side_terms.specs.Corners.{axis}
use Rattle.plane_laws.specs.Moved.{IsUnder, nonneg_mul}
use Rattle.plane_laws.specs.Unmoved.{AreNear}
use Rattle.plane_laws.specs.Decisions.{face_normal}
use Rattle.exact_kernels.specs.Exact.{position}
use Rattle.exact_kernels.specs.Marks.{place}

-- from -b to b
pub record IsUpTo (b z : ℤ) : Type 0 where
  pub low : neg_ℤ b ≤ℤ z
  pub high : z ≤ℤ b

-- all coordinates are
pub record IsBounded (b : ℤ) (c : Corner) : Type 0 where
  pub x : IsUpTo b (axis 0 c)
  pub y : IsUpTo b (axis 1 c)
  pub z : IsUpTo b (axis 2 c)

-- the greatest distance on an axis
abbrev pub span : ℤ → ℤ
span b = b +ℤ b

-- more than all distances, and more than all numbers of normals
abbrev pub wide : ℤ → ℤ
wide b = span b *ℤ span b +ℤ span b *ℤ span b +ℤ span b +ℤ pos 2

-- a product of two numbers up to s
up_to_mul : (s x y : ℤ) → IsUpTo s x → IsUpTo s y → IsUpTo (s *ℤ s) (x *ℤ y)
up_to_mul s x y h k =
    let p = nonneg_mul (s -ℤ x) (s +ℤ y) (omega (arith, ints, h.high)) (omega (arith, ints, k.low)) in
    let q = nonneg_mul (s +ℤ x) (s -ℤ y) (omega (arith, ints, h.low)) (omega (arith, ints, k.high)) in
    let r = nonneg_mul (s -ℤ x) (s -ℤ y) (omega (arith, ints, h.high)) (omega (arith, ints, k.high)) in
    let t = nonneg_mul (s +ℤ x) (s +ℤ y) (omega (arith, ints, h.low)) (omega (arith, ints, k.low)) in
    record {
      low = omega (arith, ints, r, t, sub-mul s x (s -ℤ y), mul-sub s s y, mul-sub x s y, add-mul s x (s +ℤ y), mul-add s s y, mul-add x s y);
      high = omega (arith, ints, p, q, sub-mul s x (s +ℤ y), mul-add s s y, mul-add x s y, add-mul s x (s -ℤ y), mul-sub s s y, mul-sub x s y);
    }

module _ (b : ℤ) (sized : pos 0 ≤ℤ b) where
  -- the square of the span is not negative
  square : pos 0 ≤ℤ (span b *ℤ span b)
  square = nonneg_mul (span b) (span b) (omega (arith, ints)) (omega (arith, ints))

  -- the number is above 1
  pub wide_great : pos 1 <ℤ wide b
  wide_great = omega (arith, ints, square)

  -- a distance
  pub distance : (x y : ℤ) → IsUpTo b x → IsUpTo b y → IsUpTo (span b) (y -ℤ x)
  distance x y h k = record { low = omega (arith, ints, h.high, k.low); high = omega (arith, ints, h.low, k.high) }

  -- a distance is under the wide number
  under : (z : ℤ) → IsUpTo (span b) z → IsUnder (wide b) z
  under z h = record { low = omega (arith, ints, h.low, square); high = omega (arith, ints, h.high, square) }

  -- corners are nearer than that
  pub near_by : (c d : Corner) → IsBounded b c → IsBounded b d → AreNear (wide b) (place c) (place d)
  near_by c d h k = record { x = under _ (distance _ _ h.x k.x); y = under _ (distance _ _ h.y k.y) }

  -- a number of a normal turned
  pub minor_under : (e f g h : ℤ) → IsUpTo (span b) e → IsUpTo (span b) f → IsUpTo (span b) g → IsUpTo (span b) h → IsUnder (wide b) (neg_ℤ (e *ℤ f -ℤ g *ℤ h))
  minor_under e f g h ie jf ig ih =
      let p = up_to_mul (span b) e f ie jf in
      let q = up_to_mul (span b) g h ig ih in
      record { low = omega (arith, ints, p.low, p.high, q.low, q.high); high = omega (arith, ints, p.low, p.high, q.low, q.high) }

  module _ (u v t : Corner) (hu : IsBounded b u) (hv : IsBounded b v) (ht : IsBounded b t) where
    pub normal_x_under : IsUnder (wide b) (neg_ℤ (face_normal (position u) (position v) (position t)).x)
    normal_x_under = minor_under _ _ _ _ (distance _ _ hu.y hv.y) (distance _ _ hu.z ht.z) (distance _ _ hu.z hv.z) (distance _ _ hu.y ht.y)

    pub normal_y_under : IsUnder (wide b) (neg_ℤ (face_normal (position u) (position v) (position t)).y)
    normal_y_under = minor_under _ _ _ _ (distance _ _ hu.z hv.z) (distance _ _ hu.x ht.x) (distance _ _ hu.x hv.x) (distance _ _ hu.z ht.z)

    pub normal_z_under : IsUnder (wide b) (neg_ℤ (face_normal (position u) (position v) (position t)).z)
    normal_z_under = minor_under _ _ _ _ (distance _ _ hu.x hv.x) (distance _ _ hu.y ht.y) (distance _ _ hu.y hv.y) (distance _ _ hu.x ht.x)
