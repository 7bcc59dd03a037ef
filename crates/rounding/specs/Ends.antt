-- Roundings that answer one of the two values, and settle by the floor or the ceiling: the farthest that a rounding may go.
use Rattle.std.specs.Prelude.{◌≡◌, ℤ, pos, neg_ℤ, ◌*ℤ◌, ◌≤ℤ◌, ◌<ℤ◌, unsigned_abs, Bool, true, false, if◌then◌else◌}
use Rattle.std.specs.Int.{int_div_euclid}
use Rattle.std.specs.Ordering.{int_eq}
use Rattle.std.proofs.Common.{arith, refl, inl, inr}
use Rattle.std.proofs.lemmas.Int.{ints, by_lt_z}
use Rattle.std.proofs.lemmas.Bool.Decides.{Decides-int_eq}
use Rattle.mb_base.specs.declared.TheConstants.{UNIT}
use Rattle.side_terms.specs.Fine.{LiesBetween}
use Rattle.rounding.specs.Floor.{floor_at_least, floor_at_most, floor_monotone}

-- the first value, but the second where b is 0 and a is not
abbrev pub first_end : ℤ → ℤ → ℤ → ℤ → ℤ
first_end u v a b = if int_eq b (pos 0) then (if int_eq a (pos 0) then u else v) else u

-- the second value, but the first where a is 0
abbrev pub second_end : ℤ → ℤ → ℤ → ℤ → ℤ
second_end u v a b = if int_eq a (pos 0) then u else v

-- the grid step at a fine coordinate or next below it: the floor of its quotient by the unit
abbrev pub settle_down : ℤ → ℤ
settle_down fine = int_div_euclid fine UNIT

-- the grid step at a fine coordinate or next above it: the ceiling of its quotient by the unit
abbrev pub settle_up : ℤ → ℤ
settle_up fine = neg_ℤ (int_div_euclid (neg_ℤ fine) UNIT)

-- what is chosen from two numbers lies between them
chosen : (u v : ℤ) (t : Bool) → LiesBetween u v (if t then u else v)
chosen u v true = by_lt_z u v (λ l. inl (omega (arith, ints), omega (arith, ints))) (λ l. inr (omega (arith, ints), omega (arith, ints)))
chosen u v false = by_lt_z u v (λ l. inl (omega (arith, ints), omega (arith, ints))) (λ l. inr (omega (arith, ints), omega (arith, ints)))

-- the same, where a second test may keep the first
chosen_twice : (u v : ℤ) (t s : Bool) → LiesBetween u v (if t then (if s then u else v) else u)
chosen_twice u v true s = chosen u v s
chosen_twice u v false s = chosen u v true

pub first_within : (u v a b : ℤ) → LiesBetween u v (first_end u v a b)
first_within u v a b = chosen_twice u v (int_eq b (pos 0)) (int_eq a (pos 0))

pub second_within : (u v a b : ℤ) → LiesBetween u v (second_end u v a b)
second_within u v a b = chosen u v (int_eq a (pos 0))

-- a choice whose test stands is the first, and one whose test fails the second
same_either_way : (t : Bool) (x : ℤ) → (if t then x else x) ≡ x
same_either_way true x = refl
same_either_way false x = refl

not_first : (t : Bool) (x y : ℤ) → (t ≡ true → x ≡ y) → (if t then x else y) ≡ y
not_first true x y f = f refl
not_first false x y f = refl

pub first_starts : (u v b : ℤ) → first_end u v (pos 0) b ≡ u
first_starts u v b = same_either_way (int_eq b (pos 0)) u

above_is_not_zero : (a : ℤ) (x y : ℤ) → pos 0 <ℤ a → int_eq a (pos 0) ≡ true → x ≡ y
above_is_not_zero a x y h t = let e = (Decides-int_eq a (pos 0)).0 t in absurd (omega (arith, ints, e))

pub ends_at_second : (u v a : ℤ) → pos 0 <ℤ a → second_end u v a (pos 0) ≡ v
ends_at_second u v a h = not_first (int_eq a (pos 0)) u v (above_is_not_zero a u v h)

-- settling keeps an order
pub down_monotone : (f g : ℤ) → f ≤ℤ g → settle_down f ≤ℤ settle_down g
down_monotone f g h = floor_monotone f g (unsigned_abs UNIT) (omega arith) h

pub up_monotone : (f g : ℤ) → f ≤ℤ g → settle_up f ≤ℤ settle_up g
up_monotone f g h =
    let m = floor_monotone (neg_ℤ g) (neg_ℤ f) (unsigned_abs UNIT) (omega arith) (omega (arith, ints)) in
    omega (arith, ints, m)

-- a whole number of units settles to that number
pub down_units : (k : ℤ) → settle_down (UNIT *ℤ k) ≡ k
down_units k =
    let low = floor_at_least (UNIT *ℤ k) k (unsigned_abs UNIT) (omega arith) (omega (arith, ints)) in
    let high = floor_at_most (UNIT *ℤ k) k (unsigned_abs UNIT) (omega arith) (omega (arith, ints)) in
    omega (arith, ints)

pub up_units : (k : ℤ) → settle_up (UNIT *ℤ k) ≡ k
up_units k =
    let low = floor_at_least (neg_ℤ (UNIT *ℤ k)) (neg_ℤ k) (unsigned_abs UNIT) (omega arith) (omega (arith, ints)) in
    let high = floor_at_most (neg_ℤ (UNIT *ℤ k)) (neg_ℤ k) (unsigned_abs UNIT) (omega arith) (omega (arith, ints)) in
    omega (arith, ints)
