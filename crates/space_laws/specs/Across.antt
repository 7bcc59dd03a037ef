-- The count of two edges, by the sides of their ends in x and the signs of areas: 0, or the ends of each lie on two sides of the other and the count says how.
use Rattle.std.specs.Prelude.{◌≡◌, ◌≢◌, ℤ, pos, neg_ℤ, ◌+ℤ◌, ◌-ℤ◌, Bool, true, false, not}
use Rattle.std.proofs.Common.{arith, refl, subst}
use Rattle.std.proofs.lemmas.Int.{ints}
use Rattle.plane_laws.specs.Signs.{Signed}
use Rattle.plane_laws.specs.Bits.{bit}
use Rattle.space_laws.specs.Edges.{EdgeOf, Turned, bit_not}
use Rattle.space_laws.specs.Passes.{no_order}
use Rattle.space_laws.specs.Volumes.{unit}

-- a number has one sign
one_sign_only : (r s : Bool) (z : ℤ) → Signed r z → Signed s z → r ≡ s
one_sign_only true true z h k = refl
one_sign_only false false z h k = refl
one_sign_only true false z h k = absurd (omega (arith, ints, h, k))
one_sign_only false true z h k = absurd (omega (arith, ints, h, k))

-- the shadow of an edge that is crossed in x, by the sign of its area
value_of : (s : Bool) (z e k : ℤ) → Turned z e k → Signed s z → e ≡ bit s -ℤ k
value_of s z e k h l = subst (λ (r : Bool). e ≡ bit r -ℤ k) (one_sign_only h.side s z h.sign l) h.value

-- the number of a sign by its bit
unit_bit : (s : Bool) → unit s ≡ bit s +ℤ bit s -ℤ pos 1
unit_bit true = refl
unit_bit false = refl

-- four shadows put together
count_of : (s : Bool) (ea eb ec ed ka kb kc kd : ℤ) → ea ≡ ka → eb ≡ kb → ec ≡ kc → ed ≡ kd → kb -ℤ ka -ℤ kd +ℤ kc ≡ unit s → eb -ℤ ea -ℤ ed +ℤ ec ≡ unit s
count_of s ea eb ec ed ka kb kc kd a b c d e = omega (arith, ints)

-- nothing
count_none : (ea eb ec ed : ℤ) → ea ≡ pos 0 → eb ≡ pos 0 → ec ≡ pos 0 → ed ≡ pos 0 → eb -ℤ ea -ℤ ed +ℤ ec ≡ pos 0
count_none ea eb ec ed a b c d = omega (arith, ints)

-- an edge a, b and an edge c, d: the distances in x, the shadows, and the signs of areas where they meet
module _ (xac xad xbc xbd g za zb zc zd ea eb ec ed : ℤ) (dc : xac -ℤ xbc ≡ g) (dd : xad -ℤ xbd ≡ g) where
  -- the count is that of the side
  pub across : (s ac ad bc bd : Bool) → Signed ac xac → Signed ad xad → Signed bc xbc → Signed bd xbd → EdgeOf ac ad za ea → EdgeOf bc bd zb eb → EdgeOf ac bc zc ec →
      EdgeOf ad bd zd ed → Signed (not s) za → Signed s zb → Signed s zc → Signed (not s) zd → eb -ℤ ea -ℤ ed +ℤ ec ≢ pos 0 → eb -ℤ ea -ℤ ed +ℤ ec ≡ unit s
  across s true true true true kac kad kbc kbd fa fb fc fd ha hb hc hd some = absurd (some (count_none ea eb ec ed fa fb fc fd))
  across s true true true false kac kad kbc kbd fa fb fc fd ha hb hc hd some = count_of s ea eb ec ed (pos 0) (bit s -ℤ (pos 0)) (pos 0) (bit (not s) -ℤ (pos 0)) fa
      (value_of s zb eb (pos 0) fb hb) fc (value_of (not s) zd ed (pos 0) fd hd) (omega (arith, ints, bit_not s, unit_bit s))
  across s true true false true kac kad kbc kbd fa fb fc fd ha hb hc hd some = count_of s ea eb ec ed (pos 0) (bit s -ℤ (pos 1)) (bit s -ℤ (pos 0)) (pos 0) fa
      (value_of s zb eb (pos 1) fb hb) (value_of s zc ec (pos 0) fc hc) fd (omega (arith, ints, bit_not s, unit_bit s))
  across s true true false false kac kad kbc kbd fa fb fc fd ha hb hc hd some = count_of s ea eb ec ed (pos 0) (pos 0) (bit s -ℤ (pos 0)) (bit (not s) -ℤ (pos 0)) fa fb
      (value_of s zc ec (pos 0) fc hc) (value_of (not s) zd ed (pos 0) fd hd) (omega (arith, ints, bit_not s, unit_bit s))
  across s true false true true kac kad kbc kbd fa fb fc fd ha hb hc hd some = count_of s ea eb ec ed (bit (not s) -ℤ (pos 0)) (pos 0) (pos 0) (bit (not s) -ℤ (pos 1))
      (value_of (not s) za ea (pos 0) fa ha) fb fc (value_of (not s) zd ed (pos 1) fd hd) (omega (arith, ints, bit_not s, unit_bit s))
  across s true false true false kac kad kbc kbd fa fb fc fd ha hb hc hd some = count_of s ea eb ec ed (bit (not s) -ℤ (pos 0)) (bit s -ℤ (pos 0)) (pos 0) (pos 0)
      (value_of (not s) za ea (pos 0) fa ha) (value_of s zb eb (pos 0) fb hb) fc fd (omega (arith, ints, bit_not s, unit_bit s))
  across s true false false true kac kad kbc kbd fa fb fc fd ha hb hc hd some = absurd (no_order xac xbc xad xbd g dc dd kac kbc kad kbd)
  across s true false false false kac kad kbc kbd fa fb fc fd ha hb hc hd some = count_of s ea eb ec ed (bit (not s) -ℤ (pos 0)) (pos 0) (bit s -ℤ (pos 0)) (pos 0)
      (value_of (not s) za ea (pos 0) fa ha) fb (value_of s zc ec (pos 0) fc hc) fd (omega (arith, ints, bit_not s, unit_bit s))
  across s false true true true kac kad kbc kbd fa fb fc fd ha hb hc hd some = count_of s ea eb ec ed (bit (not s) -ℤ (pos 1)) (pos 0) (bit s -ℤ (pos 1)) (pos 0)
      (value_of (not s) za ea (pos 1) fa ha) fb (value_of s zc ec (pos 1) fc hc) fd (omega (arith, ints, bit_not s, unit_bit s))
  across s false true true false kac kad kbc kbd fa fb fc fd ha hb hc hd some = absurd (no_order xad xbd xac xbc g dd dc kad kbd kac kbc)
  across s false true false true kac kad kbc kbd fa fb fc fd ha hb hc hd some = count_of s ea eb ec ed (bit (not s) -ℤ (pos 1)) (bit s -ℤ (pos 1)) (pos 0) (pos 0)
      (value_of (not s) za ea (pos 1) fa ha) (value_of s zb eb (pos 1) fb hb) fc fd (omega (arith, ints, bit_not s, unit_bit s))
  across s false true false false kac kad kbc kbd fa fb fc fd ha hb hc hd some = count_of s ea eb ec ed (bit (not s) -ℤ (pos 1)) (pos 0) (pos 0) (bit (not s) -ℤ (pos 0))
      (value_of (not s) za ea (pos 1) fa ha) fb fc (value_of (not s) zd ed (pos 0) fd hd) (omega (arith, ints, bit_not s, unit_bit s))
  across s false false true true kac kad kbc kbd fa fb fc fd ha hb hc hd some = count_of s ea eb ec ed (pos 0) (pos 0) (bit s -ℤ (pos 1)) (bit (not s) -ℤ (pos 1)) fa fb
      (value_of s zc ec (pos 1) fc hc) (value_of (not s) zd ed (pos 1) fd hd) (omega (arith, ints, bit_not s, unit_bit s))
  across s false false true false kac kad kbc kbd fa fb fc fd ha hb hc hd some = count_of s ea eb ec ed (pos 0) (bit s -ℤ (pos 0)) (bit s -ℤ (pos 1)) (pos 0) fa
      (value_of s zb eb (pos 0) fb hb) (value_of s zc ec (pos 1) fc hc) fd (omega (arith, ints, bit_not s, unit_bit s))
  across s false false false true kac kad kbc kbd fa fb fc fd ha hb hc hd some = count_of s ea eb ec ed (pos 0) (bit s -ℤ (pos 1)) (pos 0) (bit (not s) -ℤ (pos 1)) fa
      (value_of s zb eb (pos 1) fb hb) fc (value_of (not s) zd ed (pos 1) fd hd) (omega (arith, ints, bit_not s, unit_bit s))
  across s false false false false kac kad kbc kbd fa fb fc fd ha hb hc hd some = absurd (some (count_none ea eb ec ed fa fb fc fd))
