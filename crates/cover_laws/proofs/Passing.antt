-- Edges that pass below a place: an odd function, which adds up along lines; and what a triangle covers.
use Rattle.std.specs.Prelude.{◌≡◌, ◌⊎◌, ℕ, zero, suc, ℤ, pos, negsuc, neg_ℤ, ◌+ℤ◌, ◌-ℤ◌, ◌*ℤ◌, ◌≤ℤ◌, ◌<ℤ◌, Bool, true, false, not, if◌then◌else◌, int_le, int_lt}
use Rattle.std.proofs.Common.{arith, refl, sym, ap, subst, ◌∙◌, inl, inr}
use Rattle.std.proofs.Math.IntN.{*ℤ-zero, *ℤ_comm}
use Rattle.std.proofs.lemmas.Int.{ints}
use Rattle.chain_laws.specs.Products.{mul-neg}
use Rattle.plane_laws.specs.Areas.{Place, area, area_is, areas_balance_at}
use Rattle.plane_laws.specs.Meetings.{zero_times}
use Rattle.plane_laws.specs.Signs.{Signed, signed_factor, signed_mul}
use Rattle.cover_laws.specs.Covers.{CoversOnce, IsInside, IsOutside, TrianglesCoverOnce, one_of, passes, passing}

-- above 0, 0 or below
abbrev pub Sign : ℤ → Type 0
Sign z = (pos 0 <ℤ z) ⊎ ((z ≡ pos 0) ⊎ (z <ℤ pos 0))

pub sign_of : (z : ℤ) → Sign z
sign_of (pos zero) = inr (inl refl)
sign_of (pos (suc n)) = inl (omega (arith, ints))
sign_of (negsuc n) = inr (inr (omega (arith, ints)))

-- the tests by the sign
test_above : (z : ℤ) → pos 0 <ℤ z → int_lt (pos 0) z ≡ true
test_above z h = grind (arith, ints)

test_not_above : (z : ℤ) → z ≤ℤ pos 0 → int_lt (pos 0) z ≡ false
test_not_above z h = grind (arith, ints)

test_below : (z : ℤ) → z <ℤ pos 0 → int_lt z (pos 0) ≡ true
test_below z h = grind (arith, ints)

test_not_below : (z : ℤ) → pos 0 ≤ℤ z → int_lt z (pos 0) ≡ false
test_not_below z h = grind (arith, ints)

-- an edge to the right, and one to the left
pub right_above : (z : ℤ) → pos 0 <ℤ z → passing true false z ≡ pos 1
right_above z h = ap (λ t. if t then pos 1 else pos 0) (test_above z h)

pub right_none : (z : ℤ) → z ≤ℤ pos 0 → passing true false z ≡ pos 0
right_none z h = ap (λ t. if t then pos 1 else pos 0) (test_not_above z h)

pub left_below : (z : ℤ) → z <ℤ pos 0 → passing false true z ≡ neg_ℤ (pos 1)
left_below z h = ap (λ t. if t then neg_ℤ (pos 1) else pos 0) (test_below z h)

pub left_none : (z : ℤ) → pos 0 ≤ℤ z → passing false true z ≡ pos 0
left_none z h = ap (λ t. if t then neg_ℤ (pos 1) else pos 0) (test_not_below z h)

-- back and forth
back_right : (z w : ℤ) → w ≡ neg_ℤ z → passing true false z +ℤ passing false true w ≡ pos 0
back_right z w e = by (sign_of z)
  where
    by : Sign z → passing true false z +ℤ passing false true w ≡ pos 0
    by (inl h) = omega (arith, ints, right_above z h, left_below w (omega (arith, ints, e, h)))
    by (inr (inl h)) = omega (arith, ints, right_none z (omega (arith, ints, h)), left_none w (omega (arith, ints, e, h)))
    by (inr (inr h)) = omega (arith, ints, right_none z (omega (arith, ints, h)), left_none w (omega (arith, ints, e, h)))

-- so the function is odd
pub passes_turn : (p a b : Place) → passes p a b +ℤ passes p b a ≡ pos 0
passes_turn p a b = by (int_le a.x p.x) (int_le b.x p.x)
  where
    turned : area b a p ≡ neg_ℤ (area a b p)
    turned = omega (arith, ints)

    by : (s t : Bool) → passing s t (area a b p) +ℤ passing t s (area b a p) ≡ pos 0
    by true true = refl
    by true false = back_right (area a b p) (area b a p) turned
    by false true = omega (arith, ints, back_right (area b a p) (area a b p) (omega (arith, ints, turned)))
    by false false = refl

-- what the tests of sides say
pub at_left : (a p : ℤ) → int_le a p ≡ true → a ≤ℤ p
at_left a p h = grind (arith, ints)

pub at_right : (a p : ℤ) → int_le a p ≡ false → p <ℤ a
at_right a p h = grind (arith, ints)

-- of two numbers whose products with numbers of one sign are the same, both have one sign
same_sign : (r t : Bool) (d e z w : ℤ) → Signed r d → Signed r e → d *ℤ w ≡ e *ℤ z → Signed t z → Signed t w
same_sign r t d e z w hd he same hz = by r t hd he hz
  where
    by : (r t : Bool) → Signed r d → Signed r e → Signed t z → Signed t w
    by true true hd he hz = signed_factor true true d w hd (subst (λ m. pos 0 <ℤ m) (sym same) (signed_mul true true e z he hz))
    by true false hd he hz = signed_factor true false d w hd (subst (λ m. m <ℤ pos 0) (sym same) (signed_mul true false e z he hz))
    by false true hd he hz = signed_factor false false d w hd (subst (λ m. m <ℤ pos 0) (sym same) (signed_mul false true e z he hz))
    by false false hd he hz = signed_factor false true d w hd (subst (λ m. pos 0 <ℤ m) (sym same) (signed_mul false false e z he hz))

-- on a line from a, the areas with p grow as the ways in x
in_proportion : (a b c p : Place) → area a b c ≡ pos 0 → (b.x -ℤ a.x) *ℤ area a c p ≡ (c.x -ℤ a.x) *ℤ area a b p
in_proportion a b c p none =
    let own : a.x -ℤ a.x ≡ pos 0 = omega (arith, ints) in
    let turned : area c p a ≡ area a c p = omega (arith, ints) in
    omega (
      arith,
      ints,
      areas_balance_at a.x a b c p,
      ap (λ t. t *ℤ area c p b) own,
      zero_times (area c p b),
      ap (λ t. (p.x -ℤ a.x) *ℤ t) none,
      *ℤ-zero (p.x -ℤ a.x),
      ap (λ t. (b.x -ℤ a.x) *ℤ t) turned,
    )

-- so edges from a to the right of p, on one line, pass it alike
alike : (r : Bool) (d e z w : ℤ) → Signed r d → Signed r e → d *ℤ w ≡ e *ℤ z → (passing true false z ≡ passing true false w) × (passing false true z ≡ passing false true w)
alike r d e z w hd he same = by (sign_of z) (sign_of w)
  where
    up : pos 0 <ℤ z → pos 0 <ℤ w
    up = same_sign r true d e z w hd he same

    down : z <ℤ pos 0 → w <ℤ pos 0
    down = same_sign r false d e z w hd he same

    up_back : pos 0 <ℤ w → pos 0 <ℤ z
    up_back = same_sign r true e d w z he hd (sym same)

    down_back : w <ℤ pos 0 → z <ℤ pos 0
    down_back = same_sign r false e d w z he hd (sym same)

    by : Sign z → Sign w → (passing true false z ≡ passing true false w) × (passing false true z ≡ passing false true w)
    by (inl h) k =
        let g = up h in (right_above z h ∙ sym (right_above w g), left_none z (omega (arith, ints, h)) ∙ sym (left_none w (omega (arith, ints, g))))
    by (inr (inl h)) (inl k) = absurd (omega (arith, ints, h, up_back k))
    by (inr (inl h)) (inr (inl k)) =
        (right_none z (omega (arith, ints, h)) ∙ sym (right_none w (omega (arith, ints, k))), left_none z (omega (arith, ints, h)) ∙ sym (left_none w (omega (arith, ints, k))))
    by (inr (inl h)) (inr (inr k)) = absurd (omega (arith, ints, h, down_back k))
    by (inr (inr h)) k =
        let g = down h in (right_none z (omega (arith, ints, h)) ∙ sym (right_none w (omega (arith, ints, g))), left_below z h ∙ sym (left_below w g))

-- on the line of a, b and c edges from a to b and to c pass p alike where b and c lie at its other side
alike_from : (p a b c : Place) → area a b c ≡ pos 0 → (s : Bool) → int_le a.x p.x ≡ s → int_le b.x p.x ≡ not s → int_le c.x p.x ≡ not s →
    passing s (not s) (area a b p) ≡ passing s (not s) (area a c p)
alike_from p a b c none true ha hb hc =
    let left = at_left a.x p.x ha in
    (alike true (b.x -ℤ a.x) (c.x -ℤ a.x) (area a b p) (area a c p) (omega (arith, ints, left, at_right b.x p.x hb)) (omega (arith, ints, left, at_right c.x p.x hc))
    (in_proportion a b c p none)).0
alike_from p a b c none false ha hb hc =
    let right = at_right a.x p.x ha in
    (alike false (b.x -ℤ a.x) (c.x -ℤ a.x) (area a b p) (area a c p) (omega (arith, ints, right, at_left b.x p.x hb)) (omega (arith, ints, right, at_left c.x p.x hc))
    (in_proportion a b c p none)).1

-- edges along one line add up
pub passes_add : (p a b c : Place) → area a b c ≡ pos 0 → passes p a b +ℤ passes p b c ≡ passes p a c
passes_add p a b c none = by (int_le a.x p.x) (int_le b.x p.x) (int_le c.x p.x) refl refl refl
  where
    ab : ℤ
    ab = area a b p

    bc : ℤ
    bc = area b c p

    ac : ℤ
    ac = area a c p

    -- from b, seen the other way
    from_b : area b a c ≡ pos 0
    from_b = omega (arith, ints, none)

    from_c : area c a b ≡ pos 0
    from_c = omega (arith, ints, none)

    by : (s t u : Bool) → int_le a.x p.x ≡ s → int_le b.x p.x ≡ t → int_le c.x p.x ≡ u → passing s t ab +ℤ passing t u bc ≡ passing s u ac
    by true true true ha hb hc = refl
    by false false false ha hb hc = refl
    by true false false ha hb hc = omega (arith, ints, alike_from p a b c none true ha hb hc)
    by false true true ha hb hc = omega (arith, ints, alike_from p a b c none false ha hb hc)
    by true false true ha hb hc =
        omega (arith, ints, alike_from p b a c from_b false hb ha hc, back_right ab (area b a p) (omega (arith, ints)))
    by false true false ha hb hc =
        omega (arith, ints, alike_from p b a c from_b true hb ha hc, back_right (area b a p) ab (omega (arith, ints)))
    by true true false ha hb hc =
        omega (
          arith,
          ints,
          alike_from p c a b from_c false hc ha hb,
          back_right ac (area c a p) (omega (arith, ints)),
          back_right bc (area c b p) (omega (arith, ints)),
        )
    by false false true ha hb hc =
        omega (
          arith,
          ints,
          alike_from p c a b from_c true hc ha hb,
          back_right (area c a p) ac (omega (arith, ints)),
          back_right (area c b p) bc (omega (arith, ints)),
        )

-- the ways in x from p to the corners of a triangle, each times the area of p and the other two, balance
pub balance : (p a b c : Place) → (a.x -ℤ p.x) *ℤ area b c p +ℤ (b.x -ℤ p.x) *ℤ area c a p +ℤ (c.x -ℤ p.x) *ℤ area a b p ≡ pos 0
balance p a b c =
    let own : p.x -ℤ p.x ≡ pos 0 = omega (arith, ints) in
    let first : area c p b ≡ area b c p = omega (arith, ints) in
    let second : area c p a ≡ neg_ℤ (area c a p) = omega (arith, ints) in
    omega (
      arith,
      ints,
      areas_balance_at p.x a b c p,
      ap (λ t. t *ℤ area a b c) own,
      zero_times (area a b c),
      ap (λ t. (a.x -ℤ p.x) *ℤ t) first,
      ap (λ t. (b.x -ℤ p.x) *ℤ t) second,
      mul-neg (b.x -ℤ p.x) (area c a p),
    )

-- the three areas with p add up to that of the triangle
pub parts_add : (p a b c : Place) → area b c p +ℤ area c a p +ℤ area a b p ≡ area a b c
parts_add p a b c = omega (arith, ints)

-- a product by the signs of its factors
pub above_above : (u x : ℤ) → pos 0 <ℤ u → pos 0 <ℤ x → pos 0 <ℤ (u *ℤ x)
above_above u x h k = signed_mul true true u x h k

-- one corner left of p and two right of it, in a triangle that turns left: what passes below p
pub left_corner : (u v w x y z : ℤ) → u *ℤ x +ℤ v *ℤ y +ℤ w *ℤ z ≡ pos 0 → u ≤ℤ pos 0 → pos 0 <ℤ v → pos 0 <ℤ w →
    (pos 0 <ℤ x → pos 0 <ℤ y → pos 0 <ℤ z → passing true false z +ℤ passing false true y ≡ pos 1)
    × (pos 0 <ℤ (x +ℤ y +ℤ z) → (x <ℤ pos 0) ⊎ ((y <ℤ pos 0) ⊎ (z <ℤ pos 0)) → passing true false z +ℤ passing false true y ≡ pos 0)
left_corner u v w x y z even hu hv hw = (
  (λ hx hy hz. omega (arith, ints, right_above z hz, left_none y (omega (arith, ints, hy)))),
  (λ up out. by out up (sign_of y) (sign_of z)),
)
  where
    weak : (u x : ℤ) → u ≤ℤ pos 0 → x <ℤ pos 0 → pos 0 ≤ℤ (u *ℤ x)
    weak u x h k = elim (sign_of u) as (λ _. pos 0 ≤ℤ (u *ℤ x)) [
      | inl g ↦ absurd (omega (arith, ints, h, g))
      | inr (inl g) ↦ omega (arith, ints, ap (λ t. t *ℤ x) g, zero_times x)
      | inr (inr g) ↦ omega (arith, ints, signed_mul false false u x g k)
    ]

    weak_up : (u x : ℤ) → u ≤ℤ pos 0 → pos 0 ≤ℤ x → (u *ℤ x) ≤ℤ pos 0
    weak_up u x h k = elim (sign_of x) as (λ _. (u *ℤ x) ≤ℤ pos 0) [
      | inr (inl g) ↦ omega (arith, ints, ap (λ t. u *ℤ t) g, *ℤ-zero u)
      | inr (inr g) ↦ absurd (omega (arith, ints, k, g))
      | inl g ↦ elim (sign_of u) as (λ _. (u *ℤ x) ≤ℤ pos 0) [
        | inl f ↦ absurd (omega (arith, ints, h, f))
        | inr (inl f) ↦ omega (arith, ints, ap (λ t. t *ℤ x) f, zero_times x)
        | inr (inr f) ↦ omega (arith, ints, signed_mul false true u x f g)
      ]
    ]

    -- y not below and z above, so x is above
    never : pos 0 ≤ℤ y → pos 0 <ℤ z → (x <ℤ pos 0) ⊎ ((y <ℤ pos 0) ⊎ (z <ℤ pos 0)) → ⊥
    never hy hz (inl hx) = omega (arith, ints, even, weak u x hu hx, not_low, above_above w z hw hz)
      where
        not_low : pos 0 ≤ℤ (v *ℤ y)
        not_low = elim (sign_of y) as (λ _. pos 0 ≤ℤ (v *ℤ y)) [
          | inl g ↦ omega (arith, ints, above_above v y hv g)
          | inr (inl g) ↦ omega (arith, ints, ap (λ t. v *ℤ t) g, *ℤ-zero v)
          | inr (inr g) ↦ absurd (omega (arith, ints, hy, g))
        ]
    never hy hz (inr (inl k)) = omega (arith, ints, hy, k)
    never hy hz (inr (inr k)) = omega (arith, ints, hz, k)

    -- y below and z not above, so x is below, and so is the sum
    nor : y <ℤ pos 0 → z ≤ℤ pos 0 → pos 0 <ℤ (x +ℤ y +ℤ z) → ⊥
    nor hy hz up =
        let hx : pos 0 ≤ℤ x = omega (arith, ints, hy, hz, up) in
        omega (arith, ints, even, weak_up u x hu hx, signed_mul true false v y hv hy, not_high)
      where
        not_high : (w *ℤ z) ≤ℤ pos 0
        not_high = elim (sign_of z) as (λ _. (w *ℤ z) ≤ℤ pos 0) [
          | inl g ↦ absurd (omega (arith, ints, hz, g))
          | inr (inl g) ↦ omega (arith, ints, ap (λ t. w *ℤ t) g, *ℤ-zero w)
          | inr (inr g) ↦ omega (arith, ints, signed_mul true false w z hw g)
        ]

    by : (x <ℤ pos 0) ⊎ ((y <ℤ pos 0) ⊎ (z <ℤ pos 0)) → pos 0 <ℤ (x +ℤ y +ℤ z) → Sign y → Sign z → passing true false z +ℤ passing false true y ≡ pos 0
    by out up (inr (inr hy)) (inl hz) = omega (arith, ints, right_above z hz, left_below y hy)
    by out up (inr (inr hy)) (inr (inl hz)) = absurd (nor hy (omega (arith, ints, hz)) up)
    by out up (inr (inr hy)) (inr (inr hz)) = absurd (nor hy (omega (arith, ints, hz)) up)
    by out up (inl hy) (inl hz) = absurd (never (omega (arith, ints, hy)) hz out)
    by out up (inr (inl hy)) (inl hz) = absurd (never (omega (arith, ints, hy)) hz out)
    by out up (inl hy) (inr hz) = omega (arith, ints, right_none z (low hz), left_none y (omega (arith, ints, hy)))
      where
        low : (z ≡ pos 0) ⊎ (z <ℤ pos 0) → z ≤ℤ pos 0
        low (inl g) = omega (arith, ints, g)
        low (inr g) = omega (arith, ints, g)
    by out up (inr (inl hy)) (inr (inl hz)) = omega (arith, ints, right_none z (omega (arith, ints, hz)), left_none y (omega (arith, ints, hy)))
    by out up (inr (inl hy)) (inr (inr hz)) = omega (arith, ints, right_none z (omega (arith, ints, hz)), left_none y (omega (arith, ints, hy)))
