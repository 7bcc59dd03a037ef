-- A triangle covers what is inside it once, and nothing outside it.
use Rattle.std.specs.Prelude.{◌≡◌, ◌⊎◌, ℤ, pos, ◌+ℤ◌, ◌-ℤ◌, ◌*ℤ◌, ◌≤ℤ◌, ◌<ℤ◌, Bool, true, false, int_le}
use Rattle.std.proofs.Common.{arith, refl, ap, ◌∙◌, inl, inr}
use Rattle.std.proofs.Math.IntN.{*ℤ-zero}
use Rattle.std.proofs.lemmas.Int.{ints}
use Rattle.plane_laws.specs.Areas.{Place, area, area_is}
use Rattle.plane_laws.specs.Meetings.{zero_times}
use Rattle.plane_laws.specs.Signs.{signed_mul}
use Rattle.cover_laws.specs.Covers.{IsInside, IsOutside, TrianglesCoverOnce, passes, passing}
use Rattle.cover_laws.proofs.Passing.{Sign, above_above, at_left, at_right, balance, left_below, left_corner, left_none, parts_add, passes_turn, right_above, right_none, sign_of}

-- a product of what is not above and what is above
not_high : (u x : ℤ) → u ≤ℤ pos 0 → pos 0 <ℤ x → (u *ℤ x) ≤ℤ pos 0
not_high u x h k = elim (sign_of u) as (λ _. (u *ℤ x) ≤ℤ pos 0) [
  | inl g ↦ absurd (omega (arith, ints, h, g))
  | inr (inl g) ↦ omega (arith, ints, ap (λ t. t *ℤ x) g, zero_times x)
  | inr (inr g) ↦ omega (arith, ints, signed_mul false true u x g k)
]

-- and of what is not above and what is not below, or neither above
not_up : (u x : ℤ) → u ≤ℤ pos 0 → pos 0 ≤ℤ x → (u *ℤ x) ≤ℤ pos 0
not_up u x h k = elim (sign_of x) as (λ _. (u *ℤ x) ≤ℤ pos 0) [
  | inl g ↦ not_high u x h g
  | inr (inl g) ↦ omega (arith, ints, ap (λ t. u *ℤ t) g, *ℤ-zero u)
  | inr (inr g) ↦ absurd (omega (arith, ints, k, g))
]

not_down : (u x : ℤ) → u ≤ℤ pos 0 → x ≤ℤ pos 0 → pos 0 ≤ℤ (u *ℤ x)
not_down u x h k = elim (sign_of x) as (λ _. pos 0 ≤ℤ (u *ℤ x)) [
  | inl g ↦ absurd (omega (arith, ints, k, g))
  | inr (inl g) ↦ omega (arith, ints, ap (λ t. u *ℤ t) g, *ℤ-zero u)
  | inr (inr g) ↦ elim (sign_of u) as (λ _. pos 0 ≤ℤ (u *ℤ x)) [
    | inl f ↦ absurd (omega (arith, ints, h, f))
    | inr (inl f) ↦ omega (arith, ints, ap (λ t. t *ℤ x) f, zero_times x)
    | inr (inr f) ↦ omega (arith, ints, signed_mul false false u x f g)
  ]
]

-- one corner right of p and two left of it or below
right_corner : (u v w x y z : ℤ) → u *ℤ x +ℤ v *ℤ y +ℤ w *ℤ z ≡ pos 0 → pos 0 <ℤ u → v ≤ℤ pos 0 → w ≤ℤ pos 0 →
    (pos 0 <ℤ x → pos 0 <ℤ y → pos 0 <ℤ z → passing false true z +ℤ passing true false y ≡ pos 1)
    × (pos 0 <ℤ (x +ℤ y +ℤ z) → (x <ℤ pos 0) ⊎ ((y <ℤ pos 0) ⊎ (z <ℤ pos 0)) → passing false true z +ℤ passing true false y ≡ pos 0)
right_corner u v w x y z even hu hv hw = (
  (λ hx hy hz. omega (arith, ints, left_none z (omega (arith, ints, hz)), right_above y hy)),
  (λ up out. by out up (sign_of y) (sign_of z)),
)
  where
    never : pos 0 <ℤ y → pos 0 ≤ℤ z → (x <ℤ pos 0) ⊎ ((y <ℤ pos 0) ⊎ (z <ℤ pos 0)) → ⊥
    never hy hz (inl hx) = omega (arith, ints, even, signed_mul true false u x hu hx, not_high v y hv hy, not_up w z hw hz)
    never hy hz (inr (inl k)) = omega (arith, ints, hy, k)
    never hy hz (inr (inr k)) = omega (arith, ints, hz, k)

    nor : y ≤ℤ pos 0 → z <ℤ pos 0 → pos 0 <ℤ (x +ℤ y +ℤ z) → ⊥
    nor hy hz up =
        let hx : pos 0 <ℤ x = omega (arith, ints, hy, hz, up) in
        omega (arith, ints, even, above_above u x hu hx, not_down v y hv hy, not_down w z hw (omega (arith, ints, hz)))

    by : (x <ℤ pos 0) ⊎ ((y <ℤ pos 0) ⊎ (z <ℤ pos 0)) → pos 0 <ℤ (x +ℤ y +ℤ z) → Sign y → Sign z → passing false true z +ℤ passing true false y ≡ pos 0
    by out up (inl hy) (inr (inr hz)) = omega (arith, ints, left_below z hz, right_above y hy)
    by out up (inl hy) (inl hz) = absurd (never hy (omega (arith, ints, hz)) out)
    by out up (inl hy) (inr (inl hz)) = absurd (never hy (omega (arith, ints, hz)) out)
    by out up (inr (inl hy)) (inr (inr hz)) = absurd (nor (omega (arith, ints, hy)) hz up)
    by out up (inr (inr hy)) (inr (inr hz)) = absurd (nor (omega (arith, ints, hy)) hz up)
    by out up (inr hy) (inl hz) = omega (arith, ints, left_none z (omega (arith, ints, hz)), right_none y (low hy))
      where
        low : (y ≡ pos 0) ⊎ (y <ℤ pos 0) → y ≤ℤ pos 0
        low (inl g) = omega (arith, ints, g)
        low (inr g) = omega (arith, ints, g)
    by out up (inr (inl hy)) (inr (inl hz)) = omega (arith, ints, left_none z (omega (arith, ints, hz)), right_none y (omega (arith, ints, hy)))
    by out up (inr (inr hy)) (inr (inl hz)) = omega (arith, ints, left_none z (omega (arith, ints, hz)), right_none y (omega (arith, ints, hy)))

-- a triangle that turns left
record LeftOnce (p a b c : Place) : Type 0 where
  inside : IsInside true p a b c → passes p a b +ℤ passes p b c +ℤ passes p c a ≡ pos 1
  outside : IsOutside true p a b c → passes p a b +ℤ passes p b c +ℤ passes p c a ≡ pos 0

turned_once : (p a b c : Place) → LeftOnce p b c a → LeftOnce p a b c
turned_once p a b c h = record {
  inside = λ i. omega (arith, ints, h.inside (record { ab = i.bc; bc = i.ca; ca = i.ab }));
  outside = λ o. omega (arith, ints, h.outside (moved o));
}
  where
    moved : IsOutside true p a b c → IsOutside true p b c a
    moved (inl o) = inr (inr o)
    moved (inr (inl o)) = inl o
    moved (inr (inr o)) = inr (inl o)

-- one of its corners at the left of p, or below, or one at the right
left_once : (p a b c : Place) → pos 0 <ℤ area a b c → int_le a.x p.x ≡ true → int_le b.x p.x ≡ false → int_le c.x p.x ≡ false → LeftOnce p a b c
left_once p a b c up ha hb hc =
    let corner =
    left_corner (a.x -ℤ p.x) (b.x -ℤ p.x) (c.x -ℤ p.x) (area b c p) (area c a p) (area a b p) (balance p a b c) (omega (arith, ints, at_left a.x p.x ha))
    (omega (arith, ints, at_right b.x p.x hb)) (omega (arith, ints, at_right c.x p.x hc)) in
    let first : passes p a b ≡ passing true false (area a b p) = ap (λ s. passing s (int_le b.x p.x) (area a b p)) ha ∙ ap (λ t. passing true t (area a b p)) hb in
    let second : passes p b c ≡ pos 0 = ap (λ s. passing s (int_le c.x p.x) (area b c p)) hb ∙ ap (λ t. passing false t (area b c p)) hc in
    let third : passes p c a ≡ passing false true (area c a p) = ap (λ s. passing s (int_le a.x p.x) (area c a p)) hc ∙ ap (λ t. passing false t (area c a p)) ha in
    record {
      inside = λ i. omega (arith, ints, first, second, third, corner.0 i.bc i.ca i.ab);
      outside = λ o. omega (arith, ints, first, second, third, corner.1 (omega (arith, ints, up, parts_add p a b c)) (moved o));
    }
  where
    moved : IsOutside true p a b c → (area b c p <ℤ pos 0) ⊎ ((area c a p <ℤ pos 0) ⊎ (area a b p <ℤ pos 0))
    moved (inl o) = inr (inr o)
    moved (inr (inl o)) = inl o
    moved (inr (inr o)) = inr (inl o)

right_once : (p a b c : Place) → pos 0 <ℤ area a b c → int_le a.x p.x ≡ false → int_le b.x p.x ≡ true → int_le c.x p.x ≡ true → LeftOnce p a b c
right_once p a b c up ha hb hc =
    let corner =
    right_corner (a.x -ℤ p.x) (b.x -ℤ p.x) (c.x -ℤ p.x) (area b c p) (area c a p) (area a b p) (balance p a b c) (omega (arith, ints, at_right a.x p.x ha))
    (omega (arith, ints, at_left b.x p.x hb)) (omega (arith, ints, at_left c.x p.x hc)) in
    let first : passes p a b ≡ passing false true (area a b p) = ap (λ s. passing s (int_le b.x p.x) (area a b p)) ha ∙ ap (λ t. passing false t (area a b p)) hb in
    let second : passes p b c ≡ pos 0 = ap (λ s. passing s (int_le c.x p.x) (area b c p)) hb ∙ ap (λ t. passing true t (area b c p)) hc in
    let third : passes p c a ≡ passing true false (area c a p) = ap (λ s. passing s (int_le a.x p.x) (area c a p)) hc ∙ ap (λ t. passing true t (area c a p)) ha in
    record {
      inside = λ i. omega (arith, ints, first, second, third, corner.0 i.bc i.ca i.ab);
      outside = λ o. omega (arith, ints, first, second, third, corner.1 (omega (arith, ints, up, parts_add p a b c)) (moved o));
    }
  where
    moved : IsOutside true p a b c → (area b c p <ℤ pos 0) ⊎ ((area c a p <ℤ pos 0) ⊎ (area a b p <ℤ pos 0))
    moved (inl o) = inr (inr o)
    moved (inr (inl o)) = inl o
    moved (inr (inr o)) = inr (inl o)

-- all of its corners at one side: it covers nothing, and p is not inside
all_right : (p a b c : Place) → int_le a.x p.x ≡ false → int_le b.x p.x ≡ false → int_le c.x p.x ≡ false → LeftOnce p a b c
all_right p a b c ha hb hc =
    let none : (d e : Place) → int_le d.x p.x ≡ false → int_le e.x p.x ≡ false → passes p d e ≡ pos 0 = λ d e hd he.
    ap (λ s. passing s (int_le e.x p.x) (area d e p)) hd ∙ ap (λ t. passing false t (area d e p)) he in
    record {
      inside = λ i.
          absurd (omega (
            arith,
            ints,
            balance p a b c,
            above_above (a.x -ℤ p.x) (area b c p) (omega (arith, ints, at_right a.x p.x ha)) i.bc,
            above_above (b.x -ℤ p.x) (area c a p) (omega (arith, ints, at_right b.x p.x hb)) i.ca,
            above_above (c.x -ℤ p.x) (area a b p) (omega (arith, ints, at_right c.x p.x hc)) i.ab,
          ));
      outside = λ o. omega (arith, ints, none a b ha hb, none b c hb hc, none c a hc ha);
    }

all_left : (p a b c : Place) → int_le a.x p.x ≡ true → int_le b.x p.x ≡ true → int_le c.x p.x ≡ true → LeftOnce p a b c
all_left p a b c ha hb hc =
    let none : (d e : Place) → int_le d.x p.x ≡ true → int_le e.x p.x ≡ true → passes p d e ≡ pos 0 = λ d e hd he.
    ap (λ s. passing s (int_le e.x p.x) (area d e p)) hd ∙ ap (λ t. passing true t (area d e p)) he in
    record {
      inside = λ i. absurd (never i);
      outside = λ o. omega (arith, ints, none a b ha hb, none b c hb hc, none c a hc ha);
    }
  where
    -- a factor of a product that is none
    level : (u x : ℤ) → u ≤ℤ pos 0 → pos 0 <ℤ x → pos 0 ≤ℤ (u *ℤ x) → u ≡ pos 0
    level u x h k m = elim (sign_of u) as (λ _. u ≡ pos 0) [
      | inl g ↦ absurd (omega (arith, ints, h, g))
      | inr (inl g) ↦ g
      | inr (inr g) ↦ absurd (omega (arith, ints, m, signed_mul false true u x g k))
    ]

    never : IsInside true p a b c → ⊥
    never i =
        let ua : (a.x -ℤ p.x) ≤ℤ pos 0 = omega (arith, ints, at_left a.x p.x ha) in
        let ub : (b.x -ℤ p.x) ≤ℤ pos 0 = omega (arith, ints, at_left b.x p.x hb) in
        let uc : (c.x -ℤ p.x) ≤ℤ pos 0 = omega (arith, ints, at_left c.x p.x hc) in
        let xa = not_high (a.x -ℤ p.x) (area b c p) ua i.bc in
        let xb = not_high (b.x -ℤ p.x) (area c a p) ub i.ca in
        let xc = not_high (c.x -ℤ p.x) (area a b p) uc i.ab in
        let za = level (a.x -ℤ p.x) (area b c p) ua i.bc (omega (arith, ints, balance p a b c, xa, xb, xc)) in
        let zb = level (b.x -ℤ p.x) (area c a p) ub i.ca (omega (arith, ints, balance p a b c, xa, xb, xc)) in
        let same : b.x -ℤ a.x ≡ pos 0 = omega (arith, ints, za, zb) in
        let on : p.x -ℤ a.x ≡ pos 0 = omega (arith, ints, za) in
        omega (
          arith,
          ints,
          i.ab,
          area_is a b p,
          ap (λ t. t *ℤ (p.y -ℤ a.y)) same,
          zero_times (p.y -ℤ a.y),
          ap (λ t. t *ℤ (b.y -ℤ a.y)) on,
          zero_times (b.y -ℤ a.y),
        )

left_covers : (p a b c : Place) → pos 0 <ℤ area a b c → LeftOnce p a b c
left_covers p a b c up = by (int_le a.x p.x) (int_le b.x p.x) (int_le c.x p.x) refl refl refl
  where
    second : pos 0 <ℤ area b c a
    second = omega (arith, ints, up)

    third : pos 0 <ℤ area c a b
    third = omega (arith, ints, up)

    by : (s t u : Bool) → int_le a.x p.x ≡ s → int_le b.x p.x ≡ t → int_le c.x p.x ≡ u → LeftOnce p a b c
    by true true true ha hb hc = all_left p a b c ha hb hc
    by false false false ha hb hc = all_right p a b c ha hb hc
    by true false false ha hb hc = left_once p a b c up ha hb hc
    by false true false ha hb hc = turned_once p a b c (left_once p b c a second hb hc ha)
    by false false true ha hb hc = turned_once p a b c (turned_once p b c a (left_once p c a b third hc ha hb))
    by false true true ha hb hc = right_once p a b c up ha hb hc
    by true false true ha hb hc = turned_once p a b c (right_once p b c a second hb hc ha)
    by true true false ha hb hc = turned_once p a b c (turned_once p b c a (right_once p c a b third hc ha hb))

-- a triangle covers what is inside it, once, by the way it turns
pub triangles_cover_once : TrianglesCoverOnce
triangles_cover_once true p a b c up =
    let h = left_covers p a b c up in record { inside = λ i. omega (arith, ints, h.inside i); outside = λ o. omega (arith, ints, h.outside o) }
triangles_cover_once false p a b c down =
    let h = left_covers p a c b (omega (arith, ints, down)) in
    record {
      inside = λ i.
          omega (
            arith,
            ints,
            h.inside (record { ab = omega (arith, ints, i.ca); bc = omega (arith, ints, i.bc); ca = omega (arith, ints, i.ab) }),
            passes_turn p a b,
            passes_turn p b c,
            passes_turn p c a,
          );
      outside = λ o. omega (arith, ints, h.outside (moved o), passes_turn p a b, passes_turn p b c, passes_turn p c a);
    }
  where
    moved : IsOutside false p a b c → IsOutside true p a c b
    moved (inl o) = inr (inr (omega (arith, ints, o)))
    moved (inr (inl o)) = inr (inl (omega (arith, ints, o)))
    moved (inr (inr o)) = inl (omega (arith, ints, o))
