-- How often an edge crosses a face: of the five pairs of a corner, or the edge, and the rest none or two are met, and the shadows add up to minus the common
-- sign of the five volumes, or to 0 where they have none.
use Rattle.std.specs.Prelude.{◌≡◌, ◌≢◌, ℤ, pos, negsuc, neg_ℤ, ◌+ℤ◌, ◌-ℤ◌, ◌<ℤ◌, Bool, true, false, not, ◌⊎◌, ◌&&◌, int_lt, if◌then◌else◌}
use Rattle.std.proofs.Common.{arith, refl, inl, inr}
use Rattle.std.proofs.lemmas.Int.{ints}
use Rattle.plane_laws.specs.Signs.{Signed}
use Rattle.space_laws.specs.Fives.{Across, AreFive, end_edge, ends, not_ends_edge, not_three_edges, rotated, start_edge, two_edges}
use Rattle.space_laws.specs.Met.{Alike}
use Rattle.space_laws.specs.Space.{two_met}
use Rattle.space_laws.specs.Volumes.{unit, unit_odd}

-- 1 where five numbers are above 0, -1 where they are below it, else 0
abbrev pub five_sign : ℤ → ℤ → ℤ → ℤ → ℤ → ℤ
five_sign v0 v1 v2 v3 v4 =
    if int_lt (pos 0) v0 && int_lt (pos 0) v1 && int_lt (pos 0) v2 && int_lt (pos 0) v3 && int_lt (pos 0) v4 then pos 1
    else (if int_lt v0 (pos 0) && int_lt v1 (pos 0) && int_lt v2 (pos 0) && int_lt v3 (pos 0) && int_lt v4 (pos 0) then negsuc 0 else pos 0)

-- five numbers of one sign
pub five_sign_all : (s : Bool) (v0 v1 v2 v3 v4 : ℤ) → Signed s v0 → Signed s v1 → Signed s v2 → Signed s v3 → Signed s v4 → five_sign v0 v1 v2 v3 v4 ≡ unit s
five_sign_all true v0 v1 v2 v3 v4 h k l m n = grind (arith, ints)
five_sign_all false v0 v1 v2 v3 v4 h k l m n = grind (arith, ints)

-- the test of five numbers above 0
above_five : (v0 v1 v2 v3 v4 : ℤ) → (int_lt (pos 0) v0 && int_lt (pos 0) v1 && int_lt (pos 0) v2 && int_lt (pos 0) v3 && int_lt (pos 0) v4) ≡ true →
    (pos 0 <ℤ v0) × (pos 0 <ℤ v1) × (pos 0 <ℤ v2) × (pos 0 <ℤ v3) × (pos 0 <ℤ v4)
above_five v0 v1 v2 v3 v4 e = (grind (arith, ints), grind (arith, ints), grind (arith, ints), grind (arith, ints), grind (arith, ints))

-- and of five below it
below_five : (v0 v1 v2 v3 v4 : ℤ) → (int_lt v0 (pos 0) && int_lt v1 (pos 0) && int_lt v2 (pos 0) && int_lt v3 (pos 0) && int_lt v4 (pos 0)) ≡ true →
    (v0 <ℤ pos 0) × (v1 <ℤ pos 0) × (v2 <ℤ pos 0) × (v3 <ℤ pos 0) × (v4 <ℤ pos 0)
below_five v0 v1 v2 v3 v4 e = (grind (arith, ints), grind (arith, ints), grind (arith, ints), grind (arith, ints), grind (arith, ints))

-- numbers that don't have one sign
pub five_sign_not : (v0 v1 v2 v3 v4 : ℤ) → ((s : Bool) → Signed s v0 → Signed s v1 → Signed s v2 → Signed s v3 → Signed s v4 → ⊥) → five_sign v0 v1 v2 v3 v4 ≡ pos 0
five_sign_not v0 v1 v2 v3 v4 f =
    by (int_lt (pos 0) v0 && int_lt (pos 0) v1 && int_lt (pos 0) v2 && int_lt (pos 0) v3 && int_lt (pos 0) v4)
    (int_lt v0 (pos 0) && int_lt v1 (pos 0) && int_lt v2 (pos 0) && int_lt v3 (pos 0) && int_lt v4 (pos 0)) refl refl where
      by : (s t : Bool) → (int_lt (pos 0) v0 && int_lt (pos 0) v1 && int_lt (pos 0) v2 && int_lt (pos 0) v3 && int_lt (pos 0) v4) ≡ s →
          (int_lt v0 (pos 0) && int_lt v1 (pos 0) && int_lt v2 (pos 0) && int_lt v3 (pos 0) && int_lt v4 (pos 0)) ≡ t →
          (if s then pos 1 else (if t then negsuc 0 else pos 0)) ≡ pos 0
      by true t e g = let h = above_five v0 v1 v2 v3 v4 e in absurd (f true h.0 h.1 h.2 h.3 h.4)
      by false true e g = let h = below_five v0 v1 v2 v3 v4 g in absurd (f false h.0 h.1 h.2 h.3 h.4)
      by false false e g = refl

-- a pair that is met: what its areas say, the sign of its volume, its count, and its shadow, which is half of the count less that sign
pub record Mark (areas : Bool → Type 0) (n v h : ℤ) : Type 0 where
  pub side : Bool
  pub place : areas side
  pub sight : Bool
  pub volume : Signed sight v
  pub count : n ≡ unit side
  pub shadow : h +ℤ h ≡ n -ℤ unit sight

-- a pair is met or not
unfoldable pub Pair : (Bool → Type 0) → ℤ → ℤ → ℤ → Type 0
Pair areas n v h = ((n ≡ pos 0) × (h ≡ pos 0)) ⊎ Mark areas n v h

-- three areas of one sign, moved on
alike_on : {s : Bool} {x y z : ℤ} → Alike s x y z → Alike s y z x
alike_on h = record { first = h.second; second = h.third; third = h.first }

-- and once more
alike_back : {s : Bool} {x y z : ℤ} → Alike s x y z → Alike s z x y
alike_back h = record { first = h.third; second = h.first; third = h.second }

-- five numbers of which all are nothing
none_of : (x0 x1 x2 x3 x4 r : ℤ) → x0 ≡ pos 0 → x1 ≡ pos 0 → x2 ≡ pos 0 → x3 ≡ pos 0 → x4 ≡ pos 0 → r ≡ pos 0 → x0 +ℤ x1 +ℤ x2 +ℤ x3 +ℤ x4 ≡ neg_ℤ r
none_of x0 x1 x2 x3 x4 r e0 e1 e2 e3 e4 e = omega (arith, ints)

-- five numbers of which three are nothing, by the places of the others

-- where the first and the second add up to r, all do
sum_01 : (x0 x1 x2 x3 x4 r : ℤ) → x2 ≡ pos 0 → x3 ≡ pos 0 → x4 ≡ pos 0 → x0 +ℤ x1 ≡ r → x0 +ℤ x1 +ℤ x2 +ℤ x3 +ℤ x4 ≡ r
sum_01 x0 x1 x2 x3 x4 r e2 e3 e4 e = omega (arith, ints)

-- where all add up to nothing, the first and the second do
left_01 : (x0 x1 x2 x3 x4 : ℤ) → x2 ≡ pos 0 → x3 ≡ pos 0 → x4 ≡ pos 0 → x0 +ℤ x1 +ℤ x2 +ℤ x3 +ℤ x4 ≡ pos 0 → x0 +ℤ x1 ≡ pos 0
left_01 x0 x1 x2 x3 x4 e2 e3 e4 e = omega (arith, ints)

-- where the first and the third add up to r, all do
sum_02 : (x0 x1 x2 x3 x4 r : ℤ) → x1 ≡ pos 0 → x3 ≡ pos 0 → x4 ≡ pos 0 → x0 +ℤ x2 ≡ r → x0 +ℤ x1 +ℤ x2 +ℤ x3 +ℤ x4 ≡ r
sum_02 x0 x1 x2 x3 x4 r e1 e3 e4 e = omega (arith, ints)

-- where all add up to nothing, the first and the third do
left_02 : (x0 x1 x2 x3 x4 : ℤ) → x1 ≡ pos 0 → x3 ≡ pos 0 → x4 ≡ pos 0 → x0 +ℤ x1 +ℤ x2 +ℤ x3 +ℤ x4 ≡ pos 0 → x0 +ℤ x2 ≡ pos 0
left_02 x0 x1 x2 x3 x4 e1 e3 e4 e = omega (arith, ints)

-- where the first and the fourth add up to r, all do
sum_03 : (x0 x1 x2 x3 x4 r : ℤ) → x1 ≡ pos 0 → x2 ≡ pos 0 → x4 ≡ pos 0 → x0 +ℤ x3 ≡ r → x0 +ℤ x1 +ℤ x2 +ℤ x3 +ℤ x4 ≡ r
sum_03 x0 x1 x2 x3 x4 r e1 e2 e4 e = omega (arith, ints)

-- where all add up to nothing, the first and the fourth do
left_03 : (x0 x1 x2 x3 x4 : ℤ) → x1 ≡ pos 0 → x2 ≡ pos 0 → x4 ≡ pos 0 → x0 +ℤ x1 +ℤ x2 +ℤ x3 +ℤ x4 ≡ pos 0 → x0 +ℤ x3 ≡ pos 0
left_03 x0 x1 x2 x3 x4 e1 e2 e4 e = omega (arith, ints)

-- where the first and the fifth add up to r, all do
sum_04 : (x0 x1 x2 x3 x4 r : ℤ) → x1 ≡ pos 0 → x2 ≡ pos 0 → x3 ≡ pos 0 → x0 +ℤ x4 ≡ r → x0 +ℤ x1 +ℤ x2 +ℤ x3 +ℤ x4 ≡ r
sum_04 x0 x1 x2 x3 x4 r e1 e2 e3 e = omega (arith, ints)

-- where all add up to nothing, the first and the fifth do
left_04 : (x0 x1 x2 x3 x4 : ℤ) → x1 ≡ pos 0 → x2 ≡ pos 0 → x3 ≡ pos 0 → x0 +ℤ x1 +ℤ x2 +ℤ x3 +ℤ x4 ≡ pos 0 → x0 +ℤ x4 ≡ pos 0
left_04 x0 x1 x2 x3 x4 e1 e2 e3 e = omega (arith, ints)

-- where the second and the third add up to r, all do
sum_12 : (x0 x1 x2 x3 x4 r : ℤ) → x0 ≡ pos 0 → x3 ≡ pos 0 → x4 ≡ pos 0 → x1 +ℤ x2 ≡ r → x0 +ℤ x1 +ℤ x2 +ℤ x3 +ℤ x4 ≡ r
sum_12 x0 x1 x2 x3 x4 r e0 e3 e4 e = omega (arith, ints)

-- where all add up to nothing, the second and the third do
left_12 : (x0 x1 x2 x3 x4 : ℤ) → x0 ≡ pos 0 → x3 ≡ pos 0 → x4 ≡ pos 0 → x0 +ℤ x1 +ℤ x2 +ℤ x3 +ℤ x4 ≡ pos 0 → x1 +ℤ x2 ≡ pos 0
left_12 x0 x1 x2 x3 x4 e0 e3 e4 e = omega (arith, ints)

-- where the second and the fourth add up to r, all do
sum_13 : (x0 x1 x2 x3 x4 r : ℤ) → x0 ≡ pos 0 → x2 ≡ pos 0 → x4 ≡ pos 0 → x1 +ℤ x3 ≡ r → x0 +ℤ x1 +ℤ x2 +ℤ x3 +ℤ x4 ≡ r
sum_13 x0 x1 x2 x3 x4 r e0 e2 e4 e = omega (arith, ints)

-- where all add up to nothing, the second and the fourth do
left_13 : (x0 x1 x2 x3 x4 : ℤ) → x0 ≡ pos 0 → x2 ≡ pos 0 → x4 ≡ pos 0 → x0 +ℤ x1 +ℤ x2 +ℤ x3 +ℤ x4 ≡ pos 0 → x1 +ℤ x3 ≡ pos 0
left_13 x0 x1 x2 x3 x4 e0 e2 e4 e = omega (arith, ints)

-- where the second and the fifth add up to r, all do
sum_14 : (x0 x1 x2 x3 x4 r : ℤ) → x0 ≡ pos 0 → x2 ≡ pos 0 → x3 ≡ pos 0 → x1 +ℤ x4 ≡ r → x0 +ℤ x1 +ℤ x2 +ℤ x3 +ℤ x4 ≡ r
sum_14 x0 x1 x2 x3 x4 r e0 e2 e3 e = omega (arith, ints)

-- where all add up to nothing, the second and the fifth do
left_14 : (x0 x1 x2 x3 x4 : ℤ) → x0 ≡ pos 0 → x2 ≡ pos 0 → x3 ≡ pos 0 → x0 +ℤ x1 +ℤ x2 +ℤ x3 +ℤ x4 ≡ pos 0 → x1 +ℤ x4 ≡ pos 0
left_14 x0 x1 x2 x3 x4 e0 e2 e3 e = omega (arith, ints)

-- where the third and the fourth add up to r, all do
sum_23 : (x0 x1 x2 x3 x4 r : ℤ) → x0 ≡ pos 0 → x1 ≡ pos 0 → x4 ≡ pos 0 → x2 +ℤ x3 ≡ r → x0 +ℤ x1 +ℤ x2 +ℤ x3 +ℤ x4 ≡ r
sum_23 x0 x1 x2 x3 x4 r e0 e1 e4 e = omega (arith, ints)

-- where all add up to nothing, the third and the fourth do
left_23 : (x0 x1 x2 x3 x4 : ℤ) → x0 ≡ pos 0 → x1 ≡ pos 0 → x4 ≡ pos 0 → x0 +ℤ x1 +ℤ x2 +ℤ x3 +ℤ x4 ≡ pos 0 → x2 +ℤ x3 ≡ pos 0
left_23 x0 x1 x2 x3 x4 e0 e1 e4 e = omega (arith, ints)

-- where the third and the fifth add up to r, all do
sum_24 : (x0 x1 x2 x3 x4 r : ℤ) → x0 ≡ pos 0 → x1 ≡ pos 0 → x3 ≡ pos 0 → x2 +ℤ x4 ≡ r → x0 +ℤ x1 +ℤ x2 +ℤ x3 +ℤ x4 ≡ r
sum_24 x0 x1 x2 x3 x4 r e0 e1 e3 e = omega (arith, ints)

-- where all add up to nothing, the third and the fifth do
left_24 : (x0 x1 x2 x3 x4 : ℤ) → x0 ≡ pos 0 → x1 ≡ pos 0 → x3 ≡ pos 0 → x0 +ℤ x1 +ℤ x2 +ℤ x3 +ℤ x4 ≡ pos 0 → x2 +ℤ x4 ≡ pos 0
left_24 x0 x1 x2 x3 x4 e0 e1 e3 e = omega (arith, ints)

-- where the fourth and the fifth add up to r, all do
sum_34 : (x0 x1 x2 x3 x4 r : ℤ) → x0 ≡ pos 0 → x1 ≡ pos 0 → x2 ≡ pos 0 → x3 +ℤ x4 ≡ r → x0 +ℤ x1 +ℤ x2 +ℤ x3 +ℤ x4 ≡ r
sum_34 x0 x1 x2 x3 x4 r e0 e1 e2 e = omega (arith, ints)

-- where all add up to nothing, the fourth and the fifth do
left_34 : (x0 x1 x2 x3 x4 : ℤ) → x0 ≡ pos 0 → x1 ≡ pos 0 → x2 ≡ pos 0 → x0 +ℤ x1 +ℤ x2 +ℤ x3 +ℤ x4 ≡ pos 0 → x3 +ℤ x4 ≡ pos 0
left_34 x0 x1 x2 x3 x4 e0 e1 e2 e = omega (arith, ints)

-- an odd number of counts does not add up to nothing

-- counts of the first
odd_0 : (x0 x1 x2 x3 x4 : ℤ) (s0 : Bool) → x1 ≡ pos 0 → x2 ≡ pos 0 → x3 ≡ pos 0 → x4 ≡ pos 0 → x0 ≡ unit s0 → x0 +ℤ x1 +ℤ x2 +ℤ x3 +ℤ x4 ≡ pos 0 → ⊥
odd_0 x0 x1 x2 x3 x4 s0 e1 e2 e3 e4 e0 e = omega (arith, ints, unit_odd s0)

-- counts of the second
odd_1 : (x0 x1 x2 x3 x4 : ℤ) (s1 : Bool) → x0 ≡ pos 0 → x2 ≡ pos 0 → x3 ≡ pos 0 → x4 ≡ pos 0 → x1 ≡ unit s1 → x0 +ℤ x1 +ℤ x2 +ℤ x3 +ℤ x4 ≡ pos 0 → ⊥
odd_1 x0 x1 x2 x3 x4 s1 e0 e2 e3 e4 e1 e = omega (arith, ints, unit_odd s1)

-- counts of the third
odd_2 : (x0 x1 x2 x3 x4 : ℤ) (s2 : Bool) → x0 ≡ pos 0 → x1 ≡ pos 0 → x3 ≡ pos 0 → x4 ≡ pos 0 → x2 ≡ unit s2 → x0 +ℤ x1 +ℤ x2 +ℤ x3 +ℤ x4 ≡ pos 0 → ⊥
odd_2 x0 x1 x2 x3 x4 s2 e0 e1 e3 e4 e2 e = omega (arith, ints, unit_odd s2)

-- counts of the fourth
odd_3 : (x0 x1 x2 x3 x4 : ℤ) (s3 : Bool) → x0 ≡ pos 0 → x1 ≡ pos 0 → x2 ≡ pos 0 → x4 ≡ pos 0 → x3 ≡ unit s3 → x0 +ℤ x1 +ℤ x2 +ℤ x3 +ℤ x4 ≡ pos 0 → ⊥
odd_3 x0 x1 x2 x3 x4 s3 e0 e1 e2 e4 e3 e = omega (arith, ints, unit_odd s3)

-- counts of the fifth
odd_4 : (x0 x1 x2 x3 x4 : ℤ) (s4 : Bool) → x0 ≡ pos 0 → x1 ≡ pos 0 → x2 ≡ pos 0 → x3 ≡ pos 0 → x4 ≡ unit s4 → x0 +ℤ x1 +ℤ x2 +ℤ x3 +ℤ x4 ≡ pos 0 → ⊥
odd_4 x0 x1 x2 x3 x4 s4 e0 e1 e2 e3 e4 e = omega (arith, ints, unit_odd s4)

-- counts of the first and the second and the third
odd_012 : (x0 x1 x2 x3 x4 : ℤ) (s0 s1 s2 : Bool) → x3 ≡ pos 0 → x4 ≡ pos 0 → x0 ≡ unit s0 → x1 ≡ unit s1 → x2 ≡ unit s2 → x0 +ℤ x1 +ℤ x2 +ℤ x3 +ℤ x4 ≡ pos 0 → ⊥
odd_012 x0 x1 x2 x3 x4 s0 s1 s2 e3 e4 e0 e1 e2 e = omega (arith, ints, unit_odd s0, unit_odd s1, unit_odd s2)

-- counts of the first and the second and the fourth
odd_013 : (x0 x1 x2 x3 x4 : ℤ) (s0 s1 s3 : Bool) → x2 ≡ pos 0 → x4 ≡ pos 0 → x0 ≡ unit s0 → x1 ≡ unit s1 → x3 ≡ unit s3 → x0 +ℤ x1 +ℤ x2 +ℤ x3 +ℤ x4 ≡ pos 0 → ⊥
odd_013 x0 x1 x2 x3 x4 s0 s1 s3 e2 e4 e0 e1 e3 e = omega (arith, ints, unit_odd s0, unit_odd s1, unit_odd s3)

-- counts of the first and the second and the fifth
odd_014 : (x0 x1 x2 x3 x4 : ℤ) (s0 s1 s4 : Bool) → x2 ≡ pos 0 → x3 ≡ pos 0 → x0 ≡ unit s0 → x1 ≡ unit s1 → x4 ≡ unit s4 → x0 +ℤ x1 +ℤ x2 +ℤ x3 +ℤ x4 ≡ pos 0 → ⊥
odd_014 x0 x1 x2 x3 x4 s0 s1 s4 e2 e3 e0 e1 e4 e = omega (arith, ints, unit_odd s0, unit_odd s1, unit_odd s4)

-- counts of the first and the third and the fourth
odd_023 : (x0 x1 x2 x3 x4 : ℤ) (s0 s2 s3 : Bool) → x1 ≡ pos 0 → x4 ≡ pos 0 → x0 ≡ unit s0 → x2 ≡ unit s2 → x3 ≡ unit s3 → x0 +ℤ x1 +ℤ x2 +ℤ x3 +ℤ x4 ≡ pos 0 → ⊥
odd_023 x0 x1 x2 x3 x4 s0 s2 s3 e1 e4 e0 e2 e3 e = omega (arith, ints, unit_odd s0, unit_odd s2, unit_odd s3)

-- counts of the first and the third and the fifth
odd_024 : (x0 x1 x2 x3 x4 : ℤ) (s0 s2 s4 : Bool) → x1 ≡ pos 0 → x3 ≡ pos 0 → x0 ≡ unit s0 → x2 ≡ unit s2 → x4 ≡ unit s4 → x0 +ℤ x1 +ℤ x2 +ℤ x3 +ℤ x4 ≡ pos 0 → ⊥
odd_024 x0 x1 x2 x3 x4 s0 s2 s4 e1 e3 e0 e2 e4 e = omega (arith, ints, unit_odd s0, unit_odd s2, unit_odd s4)

-- counts of the first and the fourth and the fifth
odd_034 : (x0 x1 x2 x3 x4 : ℤ) (s0 s3 s4 : Bool) → x1 ≡ pos 0 → x2 ≡ pos 0 → x0 ≡ unit s0 → x3 ≡ unit s3 → x4 ≡ unit s4 → x0 +ℤ x1 +ℤ x2 +ℤ x3 +ℤ x4 ≡ pos 0 → ⊥
odd_034 x0 x1 x2 x3 x4 s0 s3 s4 e1 e2 e0 e3 e4 e = omega (arith, ints, unit_odd s0, unit_odd s3, unit_odd s4)

-- counts of the second and the third and the fourth
odd_123 : (x0 x1 x2 x3 x4 : ℤ) (s1 s2 s3 : Bool) → x0 ≡ pos 0 → x4 ≡ pos 0 → x1 ≡ unit s1 → x2 ≡ unit s2 → x3 ≡ unit s3 → x0 +ℤ x1 +ℤ x2 +ℤ x3 +ℤ x4 ≡ pos 0 → ⊥
odd_123 x0 x1 x2 x3 x4 s1 s2 s3 e0 e4 e1 e2 e3 e = omega (arith, ints, unit_odd s1, unit_odd s2, unit_odd s3)

-- counts of the second and the third and the fifth
odd_124 : (x0 x1 x2 x3 x4 : ℤ) (s1 s2 s4 : Bool) → x0 ≡ pos 0 → x3 ≡ pos 0 → x1 ≡ unit s1 → x2 ≡ unit s2 → x4 ≡ unit s4 → x0 +ℤ x1 +ℤ x2 +ℤ x3 +ℤ x4 ≡ pos 0 → ⊥
odd_124 x0 x1 x2 x3 x4 s1 s2 s4 e0 e3 e1 e2 e4 e = omega (arith, ints, unit_odd s1, unit_odd s2, unit_odd s4)

-- counts of the second and the fourth and the fifth
odd_134 : (x0 x1 x2 x3 x4 : ℤ) (s1 s3 s4 : Bool) → x0 ≡ pos 0 → x2 ≡ pos 0 → x1 ≡ unit s1 → x3 ≡ unit s3 → x4 ≡ unit s4 → x0 +ℤ x1 +ℤ x2 +ℤ x3 +ℤ x4 ≡ pos 0 → ⊥
odd_134 x0 x1 x2 x3 x4 s1 s3 s4 e0 e2 e1 e3 e4 e = omega (arith, ints, unit_odd s1, unit_odd s3, unit_odd s4)

-- counts of the third and the fourth and the fifth
odd_234 : (x0 x1 x2 x3 x4 : ℤ) (s2 s3 s4 : Bool) → x0 ≡ pos 0 → x1 ≡ pos 0 → x2 ≡ unit s2 → x3 ≡ unit s3 → x4 ≡ unit s4 → x0 +ℤ x1 +ℤ x2 +ℤ x3 +ℤ x4 ≡ pos 0 → ⊥
odd_234 x0 x1 x2 x3 x4 s2 s3 s4 e0 e1 e2 e3 e4 e = omega (arith, ints, unit_odd s2, unit_odd s3, unit_odd s4)

-- counts of the first and the second and the third and the fourth and the fifth
odd_01234 : (x0 x1 x2 x3 x4 : ℤ) (s0 s1 s2 s3 s4 : Bool) → x0 ≡ unit s0 → x1 ≡ unit s1 → x2 ≡ unit s2 → x3 ≡ unit s3 → x4 ≡ unit s4 → x0 +ℤ x1 +ℤ x2 +ℤ x3 +ℤ x4 ≡ pos 0 → ⊥
odd_01234 x0 x1 x2 x3 x4 s0 s1 s2 s3 s4 e0 e1 e2 e3 e4 e = omega (arith, ints, unit_odd s0, unit_odd s1, unit_odd s2, unit_odd s3, unit_odd s4)

-- the counts and shadows of five pairs, which add up to nothing; where none is met, the volumes don't have one sign
module _ {a1 a2 a3 b1 b2 b3 u v t whole va vb v1 v2 v3 : ℤ} (f : AreFive a1 a2 a3 b1 b2 b3 u v t whole va vb v1 v2 v3) (na nb n1 n2 n3 ha hb h1 h2 h3 : ℤ)
    (all : na +ℤ nb +ℤ n1 +ℤ n2 +ℤ n3 ≡ pos 0)
    (none : (s : Bool) → na ≡ pos 0 → nb ≡ pos 0 → n1 ≡ pos 0 → n2 ≡ pos 0 → n3 ≡ pos 0 → Signed s va → Signed s vb → Signed s v1 → Signed s v2 → Signed s v3 → ⊥) where
  -- the shadows add up to minus the common sign
  pub crossed : Pair (λ s. Alike s a1 a2 a3) na va ha → Pair (λ s. Alike (not s) b1 b2 b3) nb vb hb → Pair (λ s. Across s a1 b1 u v) n1 v1 h1 →
      Pair (λ s. Across s a2 b2 v t) n2 v2 h2 → Pair (λ s. Across s a3 b3 t u) n3 v3 h3 → ha +ℤ hb +ℤ h1 +ℤ h2 +ℤ h3 ≡ neg_ℤ (five_sign va vb v1 v2 v3)
  unfolding Pair
  crossed (inl za) (inl zb) (inl z1) (inl z2) (inl z3) =
      none_of ha hb h1 h2 h3 (five_sign va vb v1 v2 v3) za.1 zb.1 z1.1 z2.1 z3.1 (five_sign_not va vb v1 v2 v3 (λ s. none s za.0 zb.0 z1.0 z2.0 z3.0))
  crossed (inl za) (inl zb) (inl z1) (inl z2) (inr m3) =
      absurd (odd_4 na nb n1 n2 n3 m3.side za.0 zb.0 z1.0 z2.0 m3.count all)
  crossed (inl za) (inl zb) (inl z1) (inr m2) (inl z3) =
      absurd (odd_3 na nb n1 n2 n3 m2.side za.0 zb.0 z1.0 z3.0 m2.count all)
  crossed (inl za) (inl zb) (inl z1) (inr m2) (inr m3) =
      sum_34 ha hb h1 h2 h3 _ za.1 zb.1 z1.1
      (two_met m2.sight m3.sight v2 v3 h2 h3 n2 n3 (five_sign va vb v1 v2 v3) m2.volume m3.volume m2.shadow m3.shadow (left_34 na nb n1 n2 n3 za.0 zb.0 z1.0 all)
      (λ s h g. let p = two_edges (rotated f) s m2.side m3.side m2.place m3.place h g in five_sign_all s va vb v1 v2 v3 p.first p.second p.third h g)
      (λ w. five_sign_not va vb v1 v2 v3 (λ s k0 k1 k2 k3 k4. w s k3 k4)))
  crossed (inl za) (inl zb) (inr m1) (inl z2) (inl z3) =
      absurd (odd_2 na nb n1 n2 n3 m1.side za.0 zb.0 z2.0 z3.0 m1.count all)
  crossed (inl za) (inl zb) (inr m1) (inl z2) (inr m3) =
      sum_24 ha hb h1 h2 h3 _ za.1 zb.1 z2.1
      (two_met m1.sight m3.sight v1 v3 h1 h3 n1 n3 (five_sign va vb v1 v2 v3) m1.volume m3.volume m1.shadow m3.shadow (left_24 na nb n1 n2 n3 za.0 zb.0 z2.0 all)
      (λ s h g. let p = two_edges (rotated (rotated f)) s m3.side m1.side m3.place m1.place g h in five_sign_all s va vb v1 v2 v3 p.first p.second h p.third g)
      (λ w. five_sign_not va vb v1 v2 v3 (λ s k0 k1 k2 k3 k4. w s k2 k4)))
  crossed (inl za) (inl zb) (inr m1) (inr m2) (inl z3) =
      sum_23 ha hb h1 h2 h3 _ za.1 zb.1 z3.1
      (two_met m1.sight m2.sight v1 v2 h1 h2 n1 n2 (five_sign va vb v1 v2 v3) m1.volume m2.volume m1.shadow m2.shadow (left_23 na nb n1 n2 n3 za.0 zb.0 z3.0 all)
      (λ s h g. let p = two_edges f s m1.side m2.side m1.place m2.place h g in five_sign_all s va vb v1 v2 v3 p.first p.second h g p.third)
      (λ w. five_sign_not va vb v1 v2 v3 (λ s k0 k1 k2 k3 k4. w s k2 k3)))
  crossed (inl za) (inl zb) (inr m1) (inr m2) (inr m3) =
      absurd (odd_234 na nb n1 n2 n3 m1.side m2.side m3.side za.0 zb.0 m1.count m2.count m3.count all)
  crossed (inl za) (inr mb) (inl z1) (inl z2) (inl z3) =
      absurd (odd_1 na nb n1 n2 n3 mb.side za.0 z1.0 z2.0 z3.0 mb.count all)
  crossed (inl za) (inr mb) (inl z1) (inl z2) (inr m3) =
      sum_14 ha hb h1 h2 h3 _ za.1 z1.1 z2.1
      (two_met mb.sight m3.sight vb v3 hb h3 nb n3 (five_sign va vb v1 v2 v3) mb.volume m3.volume mb.shadow m3.shadow (left_14 na nb n1 n2 n3 za.0 z1.0 z2.0 all)
      (λ s h g. let p = end_edge (rotated (rotated f)) s (not mb.side) m3.side (alike_back mb.place) m3.place h g in five_sign_all s va vb v1 v2 v3 p.first h p.second
      p.third g)
      (λ w. five_sign_not va vb v1 v2 v3 (λ s k0 k1 k2 k3 k4. w s k1 k4)))
  crossed (inl za) (inr mb) (inl z1) (inr m2) (inl z3) =
      sum_13 ha hb h1 h2 h3 _ za.1 z1.1 z3.1
      (two_met mb.sight m2.sight vb v2 hb h2 nb n2 (five_sign va vb v1 v2 v3) mb.volume m2.volume mb.shadow m2.shadow (left_13 na nb n1 n2 n3 za.0 z1.0 z3.0 all)
      (λ s h g. let p = end_edge (rotated f) s (not mb.side) m2.side (alike_on mb.place) m2.place h g in five_sign_all s va vb v1 v2 v3 p.first h p.third g p.second)
      (λ w. five_sign_not va vb v1 v2 v3 (λ s k0 k1 k2 k3 k4. w s k1 k3)))
  crossed (inl za) (inr mb) (inl z1) (inr m2) (inr m3) =
      absurd (odd_134 na nb n1 n2 n3 mb.side m2.side m3.side za.0 z1.0 mb.count m2.count m3.count all)
  crossed (inl za) (inr mb) (inr m1) (inl z2) (inl z3) =
      sum_12 ha hb h1 h2 h3 _ za.1 z2.1 z3.1
      (two_met mb.sight m1.sight vb v1 hb h1 nb n1 (five_sign va vb v1 v2 v3) mb.volume m1.volume mb.shadow m1.shadow (left_12 na nb n1 n2 n3 za.0 z2.0 z3.0 all)
      (λ s h g. let p = end_edge f s (not mb.side) m1.side mb.place m1.place h g in five_sign_all s va vb v1 v2 v3 p.first h g p.second p.third)
      (λ w. five_sign_not va vb v1 v2 v3 (λ s k0 k1 k2 k3 k4. w s k1 k2)))
  crossed (inl za) (inr mb) (inr m1) (inl z2) (inr m3) =
      absurd (odd_124 na nb n1 n2 n3 mb.side m1.side m3.side za.0 z2.0 mb.count m1.count m3.count all)
  crossed (inl za) (inr mb) (inr m1) (inr m2) (inl z3) =
      absurd (odd_123 na nb n1 n2 n3 mb.side m1.side m2.side za.0 z3.0 mb.count m1.count m2.count all)
  crossed (inl za) (inr mb) (inr m1) (inr m2) (inr m3) =
      absurd (not_three_edges f m1.side m2.side m3.side m1.place m2.place m3.place)
  crossed (inr ma) (inl zb) (inl z1) (inl z2) (inl z3) =
      absurd (odd_0 na nb n1 n2 n3 ma.side zb.0 z1.0 z2.0 z3.0 ma.count all)
  crossed (inr ma) (inl zb) (inl z1) (inl z2) (inr m3) =
      sum_04 ha hb h1 h2 h3 _ zb.1 z1.1 z2.1
      (two_met ma.sight m3.sight va v3 ha h3 na n3 (five_sign va vb v1 v2 v3) ma.volume m3.volume ma.shadow m3.shadow (left_04 na nb n1 n2 n3 zb.0 z1.0 z2.0 all)
      (λ s h g. let p = start_edge (rotated (rotated f)) s ma.side m3.side (alike_back ma.place) m3.place h g in five_sign_all s va vb v1 v2 v3 h p.first p.second p.third g)
      (λ w. five_sign_not va vb v1 v2 v3 (λ s k0 k1 k2 k3 k4. w s k0 k4)))
  crossed (inr ma) (inl zb) (inl z1) (inr m2) (inl z3) =
      sum_03 ha hb h1 h2 h3 _ zb.1 z1.1 z3.1
      (two_met ma.sight m2.sight va v2 ha h2 na n2 (five_sign va vb v1 v2 v3) ma.volume m2.volume ma.shadow m2.shadow (left_03 na nb n1 n2 n3 zb.0 z1.0 z3.0 all)
      (λ s h g. let p = start_edge (rotated f) s ma.side m2.side (alike_on ma.place) m2.place h g in five_sign_all s va vb v1 v2 v3 h p.first p.third g p.second)
      (λ w. five_sign_not va vb v1 v2 v3 (λ s k0 k1 k2 k3 k4. w s k0 k3)))
  crossed (inr ma) (inl zb) (inl z1) (inr m2) (inr m3) =
      absurd (odd_034 na nb n1 n2 n3 ma.side m2.side m3.side zb.0 z1.0 ma.count m2.count m3.count all)
  crossed (inr ma) (inl zb) (inr m1) (inl z2) (inl z3) =
      sum_02 ha hb h1 h2 h3 _ zb.1 z2.1 z3.1
      (two_met ma.sight m1.sight va v1 ha h1 na n1 (five_sign va vb v1 v2 v3) ma.volume m1.volume ma.shadow m1.shadow (left_02 na nb n1 n2 n3 zb.0 z2.0 z3.0 all)
      (λ s h g. let p = start_edge f s ma.side m1.side ma.place m1.place h g in five_sign_all s va vb v1 v2 v3 h p.first g p.second p.third)
      (λ w. five_sign_not va vb v1 v2 v3 (λ s k0 k1 k2 k3 k4. w s k0 k2)))
  crossed (inr ma) (inl zb) (inr m1) (inl z2) (inr m3) =
      absurd (odd_024 na nb n1 n2 n3 ma.side m1.side m3.side zb.0 z2.0 ma.count m1.count m3.count all)
  crossed (inr ma) (inl zb) (inr m1) (inr m2) (inl z3) =
      absurd (odd_023 na nb n1 n2 n3 ma.side m1.side m2.side zb.0 z3.0 ma.count m1.count m2.count all)
  crossed (inr ma) (inl zb) (inr m1) (inr m2) (inr m3) =
      absurd (not_three_edges f m1.side m2.side m3.side m1.place m2.place m3.place)
  crossed (inr ma) (inr mb) (inl z1) (inl z2) (inl z3) =
      sum_01 ha hb h1 h2 h3 _ z1.1 z2.1 z3.1
      (two_met ma.sight mb.sight va vb ha hb na nb (five_sign va vb v1 v2 v3) ma.volume mb.volume ma.shadow mb.shadow (left_01 na nb n1 n2 n3 z1.0 z2.0 z3.0 all)
      (λ s h g. let p = ends f s ma.side (not mb.side) ma.place mb.place h g in five_sign_all s va vb v1 v2 v3 h g p.first p.second p.third)
      (λ w. five_sign_not va vb v1 v2 v3 (λ s k0 k1 k2 k3 k4. w s k0 k1)))
  crossed (inr ma) (inr mb) (inl z1) (inl z2) (inr m3) =
      absurd (odd_014 na nb n1 n2 n3 ma.side mb.side m3.side z1.0 z2.0 ma.count mb.count m3.count all)
  crossed (inr ma) (inr mb) (inl z1) (inr m2) (inl z3) =
      absurd (odd_013 na nb n1 n2 n3 ma.side mb.side m2.side z1.0 z3.0 ma.count mb.count m2.count all)
  crossed (inr ma) (inr mb) (inl z1) (inr m2) (inr m3) =
      absurd (not_ends_edge (rotated f) ma.side (not mb.side) m2.side (alike_on ma.place) (alike_on mb.place) m2.place)
  crossed (inr ma) (inr mb) (inr m1) (inl z2) (inl z3) =
      absurd (odd_012 na nb n1 n2 n3 ma.side mb.side m1.side z2.0 z3.0 ma.count mb.count m1.count all)
  crossed (inr ma) (inr mb) (inr m1) (inl z2) (inr m3) =
      absurd (not_ends_edge f ma.side (not mb.side) m1.side ma.place mb.place m1.place)
  crossed (inr ma) (inr mb) (inr m1) (inr m2) (inl z3) =
      absurd (not_ends_edge f ma.side (not mb.side) m1.side ma.place mb.place m1.place)
  crossed (inr ma) (inr mb) (inr m1) (inr m2) (inr m3) =
      absurd (odd_01234 na nb n1 n2 n3 ma.side mb.side m1.side m2.side m3.side ma.count mb.count m1.count m2.count m3.count all)
