-- Rectangles that have nothing in common with a triangle.
use Rattle.std.specs.Prelude.{◌≡◌, ℤ, pos, negsuc, ◌+ℤ◌, ◌-ℤ◌, ◌*ℤ◌, ◌≤ℤ◌, ◌<ℤ◌, neg_ℤ, ◌⊎◌, true, false, ◌&&◌, int_lt, int_le}
use Rattle.std.proofs.Common.{arith, refl, sym, subst, ◌∙◌, inl, inr}
use Rattle.std.proofs.Math.IntN.{pos-*ℤ-pos, *ℤ_comm}
use Rattle.chain_laws.specs.Products.{spread, mul-assoc, mul-sub, sub-mul, neg-mul, pos_mul}
use Rattle.std.proofs.lemmas.Bool.{cases_Bool, and_parts}
use Rattle.std.proofs.lemmas.Int.{ints}
use Rattle.face_plane.specs.Planes.{turn}
use Rattle.ring_cutting.specs.Cuts.{covers}
use Rattle.ring_cutting.specs.declared.span.Span.{Span}
use Rattle.ring_cutting.specs.Spans.{IsIn}

-- products of numbers that are not negative
no_less : (x y : ℤ) → pos 0 ≤ℤ x → pos 0 ≤ℤ y → pos 0 ≤ℤ (x *ℤ y)
no_less (pos m) (pos n) h k = subst (λ z. pos 0 ≤ℤ z) (sym (pos-*ℤ-pos m n)) (omega (arith, ints))
no_less (pos m) (negsuc n) h k = absurd (omega (arith, ints, k))
no_less (negsuc m) y h k = absurd (omega (arith, ints, h))

-- a product with a factor that grows
pub up_with : (a y z : ℤ) → pos 0 ≤ℤ a → y ≤ℤ z → (a *ℤ y) ≤ℤ (a *ℤ z)
up_with a y z h k = omega (arith, ints, no_less a (z -ℤ y) h (omega (arith, ints, k)), mul-sub a z y)

pub down_with : (a y z : ℤ) → a ≤ℤ pos 0 → z ≤ℤ y → (a *ℤ y) ≤ℤ (a *ℤ z)
down_with a y z h k =
    omega (arith, ints, no_less (neg_ℤ a) (y -ℤ z) (omega (arith, ints, h)) (omega (arith, ints, k)), neg-mul a (y -ℤ z), mul-sub a y z)

-- the corner of a rectangle that is furthest to the left of the way from a to b
pub record IsFurthest (s : Span) (a b k : ℤ × ℤ) : Type 0 where
  pub up : a.1 ≤ℤ b.1 → k.0 ≡ s.low.0
  pub down : b.1 <ℤ a.1 → k.0 ≡ s.high.0
  pub on : a.0 ≤ℤ b.0 → k.1 ≡ s.high.1
  pub back : b.0 <ℤ a.0 → k.1 ≡ s.low.1

either : (x y : ℤ) → (x ≤ℤ y) ⊎ (y <ℤ x)
either x y = elim (cases_Bool (int_le x y)) as (λ _. (x ≤ℤ y) ⊎ (y <ℤ x)) [
  | inl h ↦ inl (at_most x y h)
  | inr h ↦ inr (less x y h)
]
  where
    at_most : (x y : ℤ) → int_le x y ≡ true → x ≤ℤ y
    at_most x y h = grind (arith, ints)

    less : (x y : ℤ) → int_le x y ≡ false → y <ℤ x
    less x y h = grind (arith, ints)

-- no point of the rectangle is further to the left
pub furthest : (s : Span) (a b k x : ℤ × ℤ) → IsFurthest s a b k → IsIn s x → turn a b x ≤ℤ turn a b k
furthest s a b k x f h =
    let across : ((b.1 -ℤ a.1) *ℤ k.0) ≤ℤ ((b.1 -ℤ a.1) *ℤ x.0) = elim (either a.1 b.1) as (λ _. ((b.1 -ℤ a.1) *ℤ k.0) ≤ℤ ((b.1 -ℤ a.1) *ℤ x.0)) [
      | inl l ↦ up_with (b.1 -ℤ a.1) k.0 x.0 (omega (arith, ints, l)) (omega (arith, ints, f.up l, h.west))
      | inr l ↦ down_with (b.1 -ℤ a.1) k.0 x.0 (omega (arith, ints, l)) (omega (arith, ints, f.down l, h.east))
    ] in
    let along : ((b.0 -ℤ a.0) *ℤ x.1) ≤ℤ ((b.0 -ℤ a.0) *ℤ k.1) = elim (either a.0 b.0) as (λ _. ((b.0 -ℤ a.0) *ℤ x.1) ≤ℤ ((b.0 -ℤ a.0) *ℤ k.1)) [
      | inl l ↦ up_with (b.0 -ℤ a.0) x.1 k.1 (omega (arith, ints, l)) (omega (arith, ints, f.on l, h.north))
      | inr l ↦ down_with (b.0 -ℤ a.0) x.1 k.1 (omega (arith, ints, l)) (omega (arith, ints, f.back l, h.south))
    ] in
    omega (
      arith,
      ints,
      across,
      along,
      mul-sub (b.0 -ℤ a.0) x.1 a.1,
      mul-sub (b.0 -ℤ a.0) k.1 a.1,
      mul-sub (b.1 -ℤ a.1) x.0 a.0,
      mul-sub (b.1 -ℤ a.1) k.0 a.0,
    )

-- a point of a triangle that turns left is nowhere to the right of a side
pub record IsCovered (a b c x : ℤ × ℤ) : Type 0 where
  pub ab : pos 0 ≤ℤ turn a b x
  pub bc : pos 0 ≤ℤ turn b c x
  pub ca : pos 0 ≤ℤ turn c a x

covered : (a b c x : ℤ × ℤ) → covers a b c x ≡ true → IsCovered a b c x
covered a b c x y =
    let two = and_parts (int_le (pos 0) (turn a b x) && int_le (pos 0) (turn b c x)) (int_le (pos 0) (turn c a x)) y in
    let one = and_parts (int_le (pos 0) (turn a b x)) (int_le (pos 0) (turn b c x)) two.0 in
    record { ab = kept (turn a b x) one.0; bc = kept (turn b c x) one.1; ca = kept (turn c a x) two.1 }
  where
    kept : (z : ℤ) → int_le (pos 0) z ≡ true → pos 0 ≤ℤ z
    kept z h = grind (arith, ints)

pub uncovered : (a b c x : ℤ × ℤ) → (IsCovered a b c x → ⊥) → covers a b c x ≡ false
uncovered a b c x none = elim (cases_Bool (covers a b c x)) as (λ _. covers a b c x ≡ false) [
  | inl y ↦ absurd (none (covered a b c x y))
  | inr n ↦ n
]

-- the first two of three factors exchanged
first_changed : (a b c : ℤ) → a *ℤ (b *ℤ c) ≡ b *ℤ (a *ℤ c)
first_changed a b c = rw (← mul-assoc a b c, *ℤ_comm a b, mul-assoc b a c) refl

-- a determinant with two equal rows is 0
no_volume : (a b c : ℤ × ℤ) →
    (a.0 *ℤ (b.0 *ℤ c.1 -ℤ c.0 *ℤ b.1) +ℤ b.0 *ℤ (c.0 *ℤ a.1 -ℤ a.0 *ℤ c.1)) +ℤ c.0 *ℤ (a.0 *ℤ b.1 -ℤ b.0 *ℤ a.1) ≡ pos 0
no_volume a b c =
    omega (
      arith,
      ints,
      mul-sub a.0 (b.0 *ℤ c.1) (c.0 *ℤ b.1),
      mul-sub b.0 (c.0 *ℤ a.1) (a.0 *ℤ c.1),
      mul-sub c.0 (a.0 *ℤ b.1) (b.0 *ℤ a.1),
      first_changed a.0 b.0 c.1,
      first_changed b.0 c.0 a.1,
      first_changed c.0 a.0 b.1,
    )

-- the way from one point to another
abbrev step : ℤ × ℤ → ℤ × ℤ → ℤ × ℤ
step x a = (a.0 -ℤ x.0, a.1 -ℤ x.1)

-- a turn, as seen from its end
turn_seen : (a b x : ℤ × ℤ) → turn a b x ≡ (a.0 -ℤ x.0) *ℤ (b.1 -ℤ x.1) -ℤ (b.0 -ℤ x.0) *ℤ (a.1 -ℤ x.1)
turn_seen a b x =
    simp spread (omega (
      arith,
      ints,
      *ℤ_comm b.1 x.0,
      *ℤ_comm b.1 a.0,
      *ℤ_comm a.1 x.0,
      *ℤ_comm a.1 a.0,
      *ℤ_comm x.1 x.0,
      *ℤ_comm a.1 b.0,
      *ℤ_comm x.1 a.0,
      *ℤ_comm x.1 b.0,
    ))

-- what the turns at a point say of the corners seen from there, by either coordinate
seen_u : (a b c x : ℤ × ℤ) → ((a.0 -ℤ x.0) *ℤ turn b c x +ℤ (b.0 -ℤ x.0) *ℤ turn c a x) +ℤ (c.0 -ℤ x.0) *ℤ turn a b x ≡ pos 0
seen_u a b c x =
    (λ j. ((a.0 -ℤ x.0) *ℤ turn_seen b c x j +ℤ (b.0 -ℤ x.0) *ℤ turn_seen c a x j) +ℤ (c.0 -ℤ x.0) *ℤ turn_seen a b x j)
    ∙ no_volume (step x a) (step x b) (step x c)

-- a point with its coordinates exchanged
abbrev swapped : ℤ × ℤ → ℤ × ℤ
swapped a = (a.1, a.0)

-- a turn of such points is that of the points the other way
turn_swapped : (a b x : ℤ × ℤ) → turn (swapped a) (swapped b) (swapped x) ≡ turn b a x
turn_swapped a b x =
    turn_seen (swapped a) (swapped b) (swapped x)
    ∙ (λ j. *ℤ_comm (a.1 -ℤ x.1) (b.0 -ℤ x.0) j -ℤ *ℤ_comm (b.1 -ℤ x.1) (a.0 -ℤ x.0) j) ∙ sym (turn_seen b a x)

seen_v : (a b c x : ℤ × ℤ) → ((a.1 -ℤ x.1) *ℤ turn b c x +ℤ (b.1 -ℤ x.1) *ℤ turn c a x) +ℤ (c.1 -ℤ x.1) *ℤ turn a b x ≡ pos 0
seen_v a b c x =
    let back : ((c.1 -ℤ x.1) *ℤ turn a b x +ℤ (b.1 -ℤ x.1) *ℤ turn c a x) +ℤ (a.1 -ℤ x.1) *ℤ turn b c x ≡ pos 0 =
    (λ j. ((c.1 -ℤ x.1) *ℤ sym (turn_swapped b a x) j +ℤ (b.1 -ℤ x.1) *ℤ sym (turn_swapped a c x) j) +ℤ (a.1 -ℤ x.1) *ℤ sym (turn_swapped c b x) j)
    ∙ seen_u (swapped c) (swapped b) (swapped a) (swapped x) in
    omega (arith, ints, back)

-- a turn by the three areas of the origin and two corners
minors : (a b c : ℤ × ℤ) → turn a b c ≡ ((a.0 *ℤ b.1 -ℤ b.0 *ℤ a.1) +ℤ (b.0 *ℤ c.1 -ℤ c.0 *ℤ b.1)) +ℤ (c.0 *ℤ a.1 -ℤ a.0 *ℤ c.1)
minors a b c =
    omega (
      arith,
      ints,
      sub-mul b.0 a.0 (c.1 -ℤ a.1),
      mul-sub b.0 c.1 a.1,
      mul-sub a.0 c.1 a.1,
      *ℤ_comm (b.1 -ℤ a.1) (c.0 -ℤ a.0),
      sub-mul c.0 a.0 (b.1 -ℤ a.1),
      mul-sub c.0 b.1 a.1,
      mul-sub a.0 b.1 a.1,
    )

-- a turn of three points that are moved
moved : (a b x : ℤ) → (b -ℤ x) -ℤ (a -ℤ x) ≡ b -ℤ a
moved a b x = omega (arith, ints)

turn_moved : (a b c x : ℤ × ℤ) → turn (step x a) (step x b) (step x c) ≡ turn a b c
turn_moved a b c x = λ j. (moved a.0 b.0 x.0 j *ℤ moved a.1 c.1 x.1 j) -ℤ (moved a.1 b.1 x.1 j *ℤ moved a.0 c.0 x.0 j)

-- the three turns at a point add up to that of the triangle
whole : (a b c x : ℤ × ℤ) → (turn a b x +ℤ turn b c x) +ℤ turn c a x ≡ turn a b c
whole a b c x =
    (λ j. (turn_seen a b x j +ℤ turn_seen b c x j) +ℤ turn_seen c a x j) ∙ sym (minors (step x a) (step x b) (step x c)) ∙ turn_moved a b c x

-- three numbers that are not negative, each times a number that is greater than 0, have the sum 0 only where all are 0
no_sum : (p q r s t u : ℤ) → pos 0 <ℤ p → pos 0 <ℤ q → pos 0 <ℤ r → pos 0 ≤ℤ s → pos 0 ≤ℤ t → pos 0 ≤ℤ u →
    (p *ℤ s +ℤ q *ℤ t) +ℤ r *ℤ u ≡ pos 0 → pos 0 <ℤ ((u +ℤ s) +ℤ t) → ⊥
no_sum p q r s t u hp hq hr hs ht hu e some =
    let ps = no_less p s (omega (arith, ints, hp)) hs in
    let qt = no_less q t (omega (arith, ints, hq)) ht in
    let ru = no_less r u (omega (arith, ints, hr)) hu in
    elim (either s (pos 0)) as (λ _. ⊥) [
      | inl a ↦ elim (either t (pos 0)) as (λ _. ⊥) [
        | inl b ↦ let up : pos 0 <ℤ u = omega (arith, ints, a, b, some) in absurd (omega (arith, ints, ps, qt, pos_mul r u hr up, e))
        | inr b ↦ absurd (omega (arith, ints, ps, ru, pos_mul q t hq b, e))
      ]
      | inr a ↦ absurd (omega (arith, ints, qt, ru, pos_mul p s hp a, e))
    ]

-- the same with all three the other way
opposite : (a b c x s t u : ℤ) → ((a -ℤ x) *ℤ s +ℤ (b -ℤ x) *ℤ t) +ℤ (c -ℤ x) *ℤ u ≡ pos 0 →
    ((x -ℤ a) *ℤ s +ℤ (x -ℤ b) *ℤ t) +ℤ (x -ℤ c) *ℤ u ≡ pos 0
opposite a b c x s t u e =
    omega (arith, ints, e, sub-mul a x s, sub-mul b x t, sub-mul c x u, sub-mul x a s, sub-mul x b t, sub-mul x c u)

-- a point that lies beside, below or above all three corners is not in the triangle
pub none_west : (a b c x : ℤ × ℤ) → pos 0 <ℤ turn a b c → x.0 <ℤ a.0 → x.0 <ℤ b.0 → x.0 <ℤ c.0 → IsCovered a b c x → ⊥
none_west a b c x left ha hb hc h =
    no_sum (a.0 -ℤ x.0) (b.0 -ℤ x.0) (c.0 -ℤ x.0) (turn b c x) (turn c a x) (turn a b x) (omega (arith, ints, ha)) (omega (arith, ints, hb))
    (omega (arith, ints, hc)) h.bc h.ca h.ab
    (seen_u a b c x) (subst (λ z. pos 0 <ℤ z) (sym (whole a b c x)) left)

pub none_east : (a b c x : ℤ × ℤ) → pos 0 <ℤ turn a b c → a.0 <ℤ x.0 → b.0 <ℤ x.0 → c.0 <ℤ x.0 → IsCovered a b c x → ⊥
none_east a b c x left ha hb hc h =
    no_sum (x.0 -ℤ a.0) (x.0 -ℤ b.0) (x.0 -ℤ c.0) (turn b c x) (turn c a x) (turn a b x) (omega (arith, ints, ha)) (omega (arith, ints, hb))
    (omega (arith, ints, hc)) h.bc h.ca h.ab
    (opposite (a.0) (b.0) (c.0) (x.0) (turn b c x) (turn c a x) (turn a b x) (seen_u a b c x)) (subst (λ z. pos 0 <ℤ z) (sym (whole a b c x)) left)

pub none_south : (a b c x : ℤ × ℤ) → pos 0 <ℤ turn a b c → x.1 <ℤ a.1 → x.1 <ℤ b.1 → x.1 <ℤ c.1 → IsCovered a b c x → ⊥
none_south a b c x left ha hb hc h =
    no_sum (a.1 -ℤ x.1) (b.1 -ℤ x.1) (c.1 -ℤ x.1) (turn b c x) (turn c a x) (turn a b x) (omega (arith, ints, ha)) (omega (arith, ints, hb))
    (omega (arith, ints, hc)) h.bc h.ca h.ab
    (seen_v a b c x) (subst (λ z. pos 0 <ℤ z) (sym (whole a b c x)) left)

pub none_north : (a b c x : ℤ × ℤ) → pos 0 <ℤ turn a b c → a.1 <ℤ x.1 → b.1 <ℤ x.1 → c.1 <ℤ x.1 → IsCovered a b c x → ⊥
none_north a b c x left ha hb hc h =
    no_sum (x.1 -ℤ a.1) (x.1 -ℤ b.1) (x.1 -ℤ c.1) (turn b c x) (turn c a x) (turn a b x) (omega (arith, ints, ha)) (omega (arith, ints, hb))
    (omega (arith, ints, hc)) h.bc h.ca h.ab
    (opposite (a.1) (b.1) (c.1) (x.1) (turn b c x) (turn c a x) (turn a b x) (seen_v a b c x)) (subst (λ z. pos 0 <ℤ z) (sym (whole a b c x)) left)

pub below_of : (x y : ℤ) → int_lt x y ≡ true → x <ℤ y
below_of x y h = grind (arith, ints)

-- a point beyond a side is not in the triangle
pub right_of_ab : (a b c x : ℤ × ℤ) → int_lt (turn a b x) (pos 0) ≡ true → covers a b c x ≡ false
right_of_ab a b c x y = uncovered a b c x (λ h. absurd (omega (arith, ints, below_of (turn a b x) (pos 0) y, h.ab)))

pub right_of_bc : (a b c x : ℤ × ℤ) → int_lt (turn b c x) (pos 0) ≡ true → covers a b c x ≡ false
right_of_bc a b c x y = uncovered a b c x (λ h. absurd (omega (arith, ints, below_of (turn b c x) (pos 0) y, h.bc)))

pub right_of_ca : (a b c x : ℤ × ℤ) → int_lt (turn c a x) (pos 0) ≡ true → covers a b c x ≡ false
right_of_ca a b c x y = uncovered a b c x (λ h. absurd (omega (arith, ints, below_of (turn c a x) (pos 0) y, h.ca)))

-- where the furthest corner is to the right, all of the rectangle is
pub right_too : (s : Span) (a b k x : ℤ × ℤ) → IsFurthest s a b k → int_lt (turn a b k) (pos 0) ≡ true → IsIn s x → int_lt (turn a b x) (pos 0) ≡ true
right_too s a b k x f y h = test (turn a b x) (omega (arith, ints, furthest s a b k x f h, below_of (turn a b k) (pos 0) y))
  where
    test : (z : ℤ) → z <ℤ pos 0 → int_lt z (pos 0) ≡ true
    test z l = grind (arith, ints)
