-- The nearest rounding keeps the laws of a rounding, whatever the unit is.
use Rattle.std.specs.Prelude.{◌≡◌, ℕ, ◌+◌, ◌*◌, ◌<◌, ℤ, pos, negsuc, ◌+ℤ◌, ◌-ℤ◌, ◌*ℤ◌, ◌≤ℤ◌, ◌<ℤ◌, unsigned_abs, Bool, true, false, if◌then◌else◌}
use Rattle.std.specs.Ordering.{int_eq}
use Rattle.std.proofs.Common.{arith, ap, refl, inl, inr}
use Rattle.std.proofs.lemmas.Int.{ints, by_lt_z}
use Rattle.std.proofs.lemmas.Bool.Decides.{Decides-int_eq}
use Rattle.mb_base.specs.declared.TheConstants.{UNIT}
use Rattle.side_terms.specs.Fine.{LiesBetween}
use Rattle.rounding.specs.Nearest.{rounded, nearest, settle_nearest}
use Rattle.rounding.specs.Floor.{floor_at_least, floor_at_most, floor_monotone}
use Rattle.rounding.specs.Shares.{share_between}

-- a choice by a test that fails is the second value
otherwise : (t : Bool) (x y : ℤ) → (t ≡ true → x ≡ y) → (if t then x else y) ≡ y
otherwise true x y f = f refl
otherwise false x y f = refl

-- with no weight the value stays
pub nearest_still : (u v a b : ℤ) → a +ℤ b ≡ pos 0 → nearest u v a b ≡ u
nearest_still u v a b e =
    ap (λ (t : Bool). if t then u else (u +ℤ rounded ((v -ℤ u) *ℤ a) (a +ℤ b))) ((Decides-int_eq (a +ℤ b) (pos 0)).1 e)

-- with weight it moves by the rounded share
pub nearest_moved : (u v a b : ℤ) → pos 0 <ℤ (a +ℤ b) → nearest u v a b ≡ u +ℤ rounded ((v -ℤ u) *ℤ a) (a +ℤ b)
nearest_moved u v a b h =
    otherwise (int_eq (a +ℤ b) (pos 0)) u (u +ℤ rounded ((v -ℤ u) *ℤ a) (a +ℤ b))
    (λ t. let e = (Decides-int_eq (a +ℤ b) (pos 0)).0 t in absurd (omega (arith, ints, e)))

-- a value that moved by what lies between 0 and the difference lies between the two
moved_between : (u v s z : ℤ) → LiesBetween (pos 0) (v -ℤ u) s → z ≡ u +ℤ s → LiesBetween u v z
moved_between u v s z (inl h) e = inl (omega (arith, ints), omega (arith, ints))
moved_between u v s z (inr h) e = inr (omega (arith, ints), omega (arith, ints))

-- what is one of two numbers lies between them
first_between : (u v z : ℤ) → z ≡ u → LiesBetween u v z
first_between u v z e = by_lt_z v u
    (λ l. inr (omega (arith, ints), omega (arith, ints)))
    (λ l. inl (omega (arith, ints), omega (arith, ints)))

-- the value lies between the two
pub nearest_within : (u v a b : ℤ) → pos 0 ≤ℤ a → pos 0 ≤ℤ b → LiesBetween u v (nearest u v a b)
nearest_within u v a b h k = by_lt_z (pos 0) (a +ℤ b)
    (λ l. moved_between u v (rounded ((v -ℤ u) *ℤ a) (a +ℤ b)) (nearest u v a b) (share_between (v -ℤ u) a b h k l) (nearest_moved u v a b l))
    (λ l. first_between u v (nearest u v a b) (nearest_still u v a b (omega (arith, ints))))

-- no share of a difference is 0
no_share : (w : ℤ) (b : ℕ) → 0 < b → rounded (w *ℤ pos 0) (pos 0 +ℤ pos b) ≡ pos 0
no_share w b p =
    let z = pos 2 *ℤ (w *ℤ pos 0) +ℤ pos (0 + b) in
    let low = floor_at_least z (pos 0) (2 * (0 + b)) (omega arith) (omega (arith, ints)) in
    let high = floor_at_most z (pos 0) (2 * (0 + b)) (omega arith) (omega (arith, ints)) in
    omega (arith, ints)

-- the whole share of a difference is the difference
whole_share : (w : ℤ) (a : ℕ) → 0 < a → rounded (w *ℤ pos a) (pos a +ℤ pos 0) ≡ w
whole_share w a p =
    let z = pos 2 *ℤ (w *ℤ pos a) +ℤ pos (a + 0) in
    let low = floor_at_least z w (2 * (a + 0)) (omega arith) (omega (arith, ints)) in
    let high = floor_at_most z w (2 * (a + 0)) (omega arith) (omega (arith, ints)) in
    omega (arith, ints)

-- at the first weight 0 it is the first value
pub nearest_starts : (u v b : ℤ) → pos 0 ≤ℤ b → nearest u v (pos 0) b ≡ u
nearest_starts u v (negsuc b) h = absurd (omega (arith, ints))
nearest_starts u v (pos b) h = by_lt_z (pos 0) (pos b)
    (λ l. let e = no_share (v -ℤ u) b (omega (arith, ints)) in let m = nearest_moved u v (pos 0) (pos b) (omega (arith, ints)) in omega (arith, ints, e, m))
    (λ l. nearest_still u v (pos 0) (pos b) (omega (arith, ints)))

-- at the second weight 0 it is the second value, where the first is above 0
pub nearest_ends : (u v a : ℤ) → pos 0 <ℤ a → nearest u v a (pos 0) ≡ v
nearest_ends u v (negsuc a) h = absurd (omega (arith, ints))
nearest_ends u v (pos a) h =
    let e = whole_share (v -ℤ u) a (omega (arith, ints)) in
    let m = nearest_moved u v (pos a) (pos 0) (omega (arith, ints)) in
    omega (arith, ints, e, m)

-- settling keeps an order
pub settle_monotone : (f g : ℤ) → f ≤ℤ g → settle_nearest f ≤ℤ settle_nearest g
settle_monotone f g h =
    floor_monotone (pos 2 *ℤ f +ℤ UNIT) (pos 2 *ℤ g +ℤ UNIT) (2 * unsigned_abs UNIT) (omega arith) (omega (arith, ints))

-- a whole number of units settles to that number
pub settle_units : (k : ℤ) → settle_nearest (UNIT *ℤ k) ≡ k
settle_units k =
    let low = floor_at_least (pos 2 *ℤ (UNIT *ℤ k) +ℤ UNIT) k (2 * unsigned_abs UNIT) (omega arith) (omega (arith, ints)) in
    let high = floor_at_most (pos 2 *ℤ (UNIT *ℤ k) +ℤ UNIT) k (2 * unsigned_abs UNIT) (omega arith) (omega (arith, ints)) in
    omega (arith, ints)
