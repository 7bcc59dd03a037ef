-- How often the ray from beside an edge of a triangle crosses the triangle's edges: once from its inside, and not at all from outside.
use Rattle.std.specs.Prelude.{◌≡◌, ◌≢◌, ◌⊎◌, ℤ, zero, suc, pos, negsuc, neg_ℤ, ◌+ℤ◌, ◌-ℤ◌, ◌*ℤ◌, ◌<ℤ◌, Bool, true, false, not, ◌&&◌, if◌then◌else◌, int_lt}
use Rattle.std.specs.Ordering.{int_eq}
use Rattle.std.proofs.Common.{arith, refl, sym, ap, subst, ◌∙◌, inl, inr}
use Rattle.std.proofs.Math.IntN.{*ℤ_comm}
use Rattle.std.proofs.lemmas.Bool.{both_ways, false_from_ne_true}
use Rattle.std.proofs.lemmas.Bool.Decides.{Decides-int_eq}
use Rattle.std.proofs.lemmas.Int.{ints}
use Rattle.chain_laws.specs.Products.{mul-add, mul-neg, mul-sub, neg-mul, pos_mul, sub-mul}
use Rattle.face_plane.specs.Planes.{turn}
use Rattle.plane_laws.specs.Areas.{Place, area, area_is}
use Rattle.sheet_terms.specs.Numbers.{beside, crossing, first_of_three, height}
use Rattle.sheet_terms.specs.Twins.{are_same}

-- how often an edge crosses a ray, by whether its ends lie below where the ray begins, and on which side of the edge that is
abbrev counted : Bool → Bool → ℤ → ℤ
counted f t s = if f && not t && int_lt (pos 0) s then pos 1 else if not f && t && int_lt s (pos 0) then neg_ℤ (pos 1) else pos 0

abbrev below : ℤ × ℤ → ℤ × ℤ → ℤ × ℤ → Bool
below a b p = int_lt (height a b p) (pos 0)

-- where it lies left of the edge, and where it lies right
abbrev up : Bool → Bool → ℤ
up f t = if f && not t then pos 1 else pos 0

abbrev down : Bool → Bool → ℤ
down f t = if not f && t then neg_ℤ (pos 1) else pos 0

-- the signs of a number
above_is : (z : ℤ) → pos 0 <ℤ z → int_lt (pos 0) z ≡ true
above_is z h = grind (arith, ints)

not_above : (z : ℤ) → z <ℤ pos 0 → int_lt (pos 0) z ≡ false
not_above z h = grind (arith, ints)

less_is : (z : ℤ) → z <ℤ pos 0 → int_lt z (pos 0) ≡ true
less_is z h = grind (arith, ints)

not_less : (z : ℤ) → pos 0 <ℤ z → int_lt z (pos 0) ≡ false
not_less z h = grind (arith, ints)

pub sign_of : (z : ℤ) → (pos 0 <ℤ z) ⊎ ((z <ℤ pos 0) ⊎ (z ≡ pos 0))
sign_of (pos zero) = inr (inr refl)
sign_of (pos (suc n)) = inl (omega (arith, ints))
sign_of (negsuc n) = inr (inl (omega (arith, ints)))

count_up : (f t : Bool) (s : ℤ) → pos 0 <ℤ s → counted f t s ≡ up f t
count_up true true s h = refl
count_up true false s h = ap (λ b. if b then pos 1 else pos 0) (above_is s h)
count_up false true s h = ap (λ b. if b then neg_ℤ (pos 1) else pos 0) (not_less s h)
count_up false false s h = refl

count_down : (f t : Bool) (s : ℤ) → s <ℤ pos 0 → counted f t s ≡ down f t
count_down true true s h = refl
count_down true false s h = ap (λ b. if b then pos 1 else pos 0) (not_above s h)
count_down false true s h = ap (λ b. if b then neg_ℤ (pos 1) else pos 0) (less_is s h)
count_down false false s h = refl

-- three ends that don't all lie on one side: once round, one edge comes up
inside : (f g h : Bool) → (are_same f g && are_same f h) ≡ false → (up f g +ℤ up g h) +ℤ up h f ≡ pos 1
inside true true true e = absurd (both_ways true e refl)
inside true true false e = refl
inside true false true e = refl
inside true false false e = refl
inside false true true e = refl
inside false true false e = refl
inside false false true e = refl
inside false false false e = absurd (both_ways true e refl)

-- and where the first edge is seen from its right: it goes down, or none of them counts
outside : (f g h : Bool) → (are_same f g ≡ false) ⊎ ((are_same f g && are_same f h) ≡ true) → (down f g +ℤ up g h) +ℤ up h f ≡ pos 0
outside true true true e = refl
outside true true false (inl e) = absurd (both_ways true e refl)
outside true true false (inr e) = absurd (both_ways false refl e)
outside true false true e = refl
outside true false false e = refl
outside false true true e = refl
outside false true false e = refl
outside false false true (inl e) = absurd (both_ways true e refl)
outside false false true (inr e) = absurd (both_ways false refl e)
outside false false false e = refl

-- the first number that is not 0
not_none : (z : ℤ) → z ≢ pos 0 → int_eq z (pos 0) ≡ false
not_none z h = false_from_ne_true (int_eq z (pos 0)) (λ t. h ((Decides-int_eq z (pos 0)).0 t))

first_some : (x y z : ℤ) → x ≢ pos 0 → first_of_three x y z ≡ x
first_some x y z h = ap (λ b. if b then if int_eq y (pos 0) then z else y else x) (not_none x h)

first_none : (x y z : ℤ) → x ≡ pos 0 → y ≡ pos 0 → first_of_three x y z ≡ z
first_none x y z e f = λ i. first_of_three (e i) (f i) z

-- signs of products
sign_right : (x y : ℤ) → pos 0 <ℤ (x *ℤ y) → pos 0 <ℤ x → pos 0 <ℤ y
sign_right x y h p = elim (sign_of y) as (λ _. pos 0 <ℤ y) [
  | inl q ↦ q
  | inr (inl q) ↦ (let r = pos_mul x (neg_ℤ y) p (omega (arith, ints, q)) in absurd (omega (arith, ints, r, h, mul-neg x y)))
  | inr (inr q) ↦ absurd (omega (arith, ints, h, ap (λ t. x *ℤ t) q))
]

sign_left : (x y : ℤ) → pos 0 <ℤ (x *ℤ y) → x <ℤ pos 0 → y <ℤ pos 0
sign_left x y h p =
    let k = sign_right (neg_ℤ x) (neg_ℤ y) (omega (arith, ints, h, neg-mul x (neg_ℤ y), mul-neg x y)) (omega (arith, ints, p)) in omega (arith, ints, k)

square_up : (x : ℤ) → x ≢ pos 0 → pos 0 <ℤ (x *ℤ x)
square_up x h = elim (sign_of x) as (λ _. pos 0 <ℤ (x *ℤ x)) [
  | inl p ↦ pos_mul x x p p
  | inr (inl p) ↦ (let k = pos_mul (neg_ℤ x) (neg_ℤ x) (omega (arith, ints, p)) (omega (arith, ints, p)) in omega (arith, ints, k, neg-mul x (neg_ℤ x), mul-neg x x))
  | inr (inr e) ↦ absurd (h e)
]

square_low : (x : ℤ) → negsuc 0 <ℤ (x *ℤ x)
square_low x = elim (sign_of x) as (λ _. negsuc 0 <ℤ (x *ℤ x)) [
  | inl p ↦ (let k = square_up x (λ e. omega (arith, ints, p, e)) in omega (arith, ints, k))
  | inr (inl p) ↦ (let k = square_up x (λ e. omega (arith, ints, p, e)) in omega (arith, ints, k))
  | inr (inr e) ↦ omega (arith, ints, ap (λ t. t *ℤ t) e)
]

-- a turn is the same from each of its places
abbrev pub placed : ℤ × ℤ → Place
placed p = record { x = p.0; y = p.1 }

pub turn_area : (p q r : ℤ × ℤ) → turn p q r ≡ area (placed p) (placed q) (placed r)
turn_area p q r = omega (arith, ints, *ℤ_comm (q.1 -ℤ p.1) (r.0 -ℤ p.0), area_is (placed p) (placed q) (placed r))

pub turn_round : (p q r : ℤ × ℤ) → turn q r p ≡ turn p q r
turn_round p q r = omega (arith, ints, turn_area p q r, turn_area q r p)

-- the ray from beside an edge, seen from the other two
abbrev side : ℤ × ℤ → ℤ × ℤ → ℤ × ℤ → ℤ × ℤ → ℤ
side a b p q = (q.0 -ℤ p.0) *ℤ (a.1 +ℤ b.1 -ℤ pos 2 *ℤ p.1) -ℤ (q.1 -ℤ p.1) *ℤ (a.0 +ℤ b.0 -ℤ pos 2 *ℤ p.0)

side_next : (a b p q r : ℤ × ℤ) → a.0 +ℤ b.0 ≡ p.0 +ℤ q.0 → a.1 +ℤ b.1 ≡ p.1 +ℤ q.1 → side a b q r ≡ turn p q r
side_next a b p q r e f =
    let u : a.0 +ℤ b.0 -ℤ pos 2 *ℤ q.0 ≡ p.0 -ℤ q.0 = omega (arith, ints, e) in
    let v : a.1 +ℤ b.1 -ℤ pos 2 *ℤ q.1 ≡ p.1 -ℤ q.1 = omega (arith, ints, f) in
    (λ i. (r.0 -ℤ q.0) *ℤ v i -ℤ (r.1 -ℤ q.1) *ℤ u i) ∙ turn_round p q r

side_last : (a b p q r : ℤ × ℤ) → a.0 +ℤ b.0 ≡ p.0 +ℤ q.0 → a.1 +ℤ b.1 ≡ p.1 +ℤ q.1 → side a b r p ≡ turn p q r
side_last a b p q r e f =
    let x = p.0 -ℤ r.0 in
    let y = p.1 -ℤ r.1 in
    let s = q.0 -ℤ r.0 in
    let t = q.1 -ℤ r.1 in
    let u : a.0 +ℤ b.0 -ℤ pos 2 *ℤ r.0 ≡ x +ℤ s = omega (arith, ints, e) in
    let v : a.1 +ℤ b.1 -ℤ pos 2 *ℤ r.1 ≡ y +ℤ t = omega (arith, ints, f) in
    let parts : x *ℤ (y +ℤ t) -ℤ y *ℤ (x +ℤ s) ≡ x *ℤ t -ℤ y *ℤ s = omega (arith, ints, mul-add x y t, mul-add y x s, *ℤ_comm x y) in
    (λ i. x *ℤ v i -ℤ y *ℤ u i) ∙ parts ∙ turn_round q r p ∙ turn_round p q r

side_own : (a b p q : ℤ × ℤ) → a.0 +ℤ b.0 ≡ p.0 +ℤ q.0 → a.1 +ℤ b.1 ≡ p.1 +ℤ q.1 → side a b p q ≡ pos 0
side_own a b p q e f =
    let x = q.0 -ℤ p.0 in
    let y = q.1 -ℤ p.1 in
    let u : a.0 +ℤ b.0 -ℤ pos 2 *ℤ p.0 ≡ x = omega (arith, ints, e) in
    let v : a.1 +ℤ b.1 -ℤ pos 2 *ℤ p.1 ≡ y = omega (arith, ints, f) in
    (λ i. x *ℤ v i -ℤ y *ℤ u i) ∙ omega (arith, ints, *ℤ_comm x y)

-- two places of a triangle that turns left are apart
ends_apart : (p q r : ℤ × ℤ) → pos 0 <ℤ turn p q r → q.0 -ℤ p.0 ≡ pos 0 → q.1 -ℤ p.1 ≡ pos 0 → ⊥
ends_apart p q r up e f = omega (arith, ints, up, ap (λ t. t *ℤ (r.1 -ℤ p.1)) e, ap (λ t. t *ℤ (r.0 -ℤ p.0)) f)

length_up : (p q r : ℤ × ℤ) → pos 0 <ℤ turn p q r → pos 0 <ℤ ((q.0 -ℤ p.0) *ℤ (q.0 -ℤ p.0) +ℤ (q.1 -ℤ p.1) *ℤ (q.1 -ℤ p.1))
length_up p q r up =
    let x = q.0 -ℤ p.0 in
    let y = q.1 -ℤ p.1 in
    let a = square_low x in
    let b = square_low y in
    elim (sign_of x) as (λ _. pos 0 <ℤ (x *ℤ x +ℤ y *ℤ y)) [
      | inl h ↦ (let k = square_up x (λ e. omega (arith, ints, h, e)) in omega (arith, ints, k, b))
      | inr (inl h) ↦ (let k = square_up x (λ e. omega (arith, ints, h, e)) in omega (arith, ints, k, b))
      | inr (inr e) ↦ (let k = square_up y (ends_apart p q r up e) in omega (arith, ints, k, a))
    ]

module _ (p q r : ℤ × ℤ) (left : pos 0 <ℤ turn p q r) where
  -- from beside the edge, and from beside its reverse
  next_in : beside p q q r ≡ turn p q r
  next_in = let s = side_next p q p q r refl refl in
      first_some (side p q q r) ((r.0 -ℤ q.0) *ℤ (q.1 -ℤ p.1) -ℤ (r.1 -ℤ q.1) *ℤ (q.0 -ℤ p.0)) ((r.0 -ℤ q.0) *ℤ (q.0 -ℤ p.0) +ℤ (r.1 -ℤ q.1) *ℤ (q.1 -ℤ p.1))
      (λ e. omega (arith, ints, left, s, e)) ∙ s

  last_in : beside p q r p ≡ turn p q r
  last_in = let s = side_last p q p q r refl refl in
      first_some (side p q r p) ((p.0 -ℤ r.0) *ℤ (q.1 -ℤ p.1) -ℤ (p.1 -ℤ r.1) *ℤ (q.0 -ℤ p.0)) ((p.0 -ℤ r.0) *ℤ (q.0 -ℤ p.0) +ℤ (p.1 -ℤ r.1) *ℤ (q.1 -ℤ p.1))
      (λ e. omega (arith, ints, left, s, e)) ∙ s

  next_out : beside q p q r ≡ turn p q r
  next_out = let s = side_next q p p q r (omega (arith, ints)) (omega (arith, ints)) in
      first_some (side q p q r) ((r.0 -ℤ q.0) *ℤ (p.1 -ℤ q.1) -ℤ (r.1 -ℤ q.1) *ℤ (p.0 -ℤ q.0)) ((r.0 -ℤ q.0) *ℤ (p.0 -ℤ q.0) +ℤ (r.1 -ℤ q.1) *ℤ (p.1 -ℤ q.1))
      (λ e. omega (arith, ints, left, s, e)) ∙ s

  last_out : beside q p r p ≡ turn p q r
  last_out = let s = side_last q p p q r (omega (arith, ints)) (omega (arith, ints)) in
      first_some (side q p r p) ((p.0 -ℤ r.0) *ℤ (p.1 -ℤ q.1) -ℤ (p.1 -ℤ r.1) *ℤ (p.0 -ℤ q.0)) ((p.0 -ℤ r.0) *ℤ (p.0 -ℤ q.0) +ℤ (p.1 -ℤ r.1) *ℤ (p.1 -ℤ q.1))
      (λ e. omega (arith, ints, left, s, e)) ∙ s

  own_in : pos 0 <ℤ beside p q p q
  own_in =
      let x = q.0 -ℤ p.0 in
      let y = q.1 -ℤ p.1 in
      let second : x *ℤ y -ℤ y *ℤ x ≡ pos 0 = omega (arith, ints, *ℤ_comm x y) in
      subst (λ z. pos 0 <ℤ z) (sym (first_none (side p q p q) (x *ℤ y -ℤ y *ℤ x) (x *ℤ x +ℤ y *ℤ y) (side_own p q p q refl refl) second)) (length_up p q r left)

  own_out : beside q p p q <ℤ pos 0
  own_out =
      let x = q.0 -ℤ p.0 in
      let y = q.1 -ℤ p.1 in
      let u : p.0 -ℤ q.0 ≡ neg_ℤ x = omega (arith, ints) in
      let v : p.1 -ℤ q.1 ≡ neg_ℤ y = omega (arith, ints) in
      let second : x *ℤ (p.1 -ℤ q.1) -ℤ y *ℤ (p.0 -ℤ q.0) ≡ pos 0 =
      (λ i. x *ℤ v i -ℤ y *ℤ u i) ∙ omega (arith, ints, *ℤ_comm x y, mul-neg x y, mul-neg y x) in
      let third : x *ℤ (p.0 -ℤ q.0) +ℤ y *ℤ (p.1 -ℤ q.1) ≡ neg_ℤ (x *ℤ x +ℤ y *ℤ y) =
      (λ i. x *ℤ u i +ℤ y *ℤ v i) ∙ omega (arith, ints, mul-neg x x, mul-neg y y) in
      let long = length_up p q r left in
      subst (λ z. z <ℤ pos 0)
      (sym (first_none (side q p p q) (x *ℤ (p.1 -ℤ q.1) -ℤ y *ℤ (p.0 -ℤ q.0)) (x *ℤ (p.0 -ℤ q.0) +ℤ y *ℤ (p.1 -ℤ q.1))
      (side_own q p p q (omega (arith, ints)) (omega (arith, ints))) second ∙ third)) (omega (arith, ints, long))

  -- where the ends lie
  abbrev rise : ℤ
  rise = q.1 -ℤ p.1

  height_some : (a b v : ℤ × ℤ) → pos 2 *ℤ v.1 -ℤ (a.1 +ℤ b.1) ≢ pos 0 → height a b v ≡ pos 2 *ℤ v.1 -ℤ (a.1 +ℤ b.1)
  height_some a b v h = first_some (pos 2 *ℤ v.1 -ℤ (a.1 +ℤ b.1)) (a.1 -ℤ b.1) (a.0 -ℤ b.0) h

  height_none : (a b v : ℤ × ℤ) → pos 2 *ℤ v.1 -ℤ (a.1 +ℤ b.1) ≡ pos 0 → a.1 -ℤ b.1 ≡ pos 0 → height a b v ≡ a.0 -ℤ b.0
  height_none a b v e f = first_none (pos 2 *ℤ v.1 -ℤ (a.1 +ℤ b.1)) (a.1 -ℤ b.1) (a.0 -ℤ b.0) e f

  low_at : (a b v : ℤ × ℤ) → (pos 2 *ℤ v.1 -ℤ (a.1 +ℤ b.1)) <ℤ pos 0 → below a b v ≡ true
  low_at a b v h = ap (λ z. int_lt z (pos 0)) (height_some a b v (λ e. omega (arith, ints, h, e))) ∙ less_is (pos 2 *ℤ v.1 -ℤ (a.1 +ℤ b.1)) h

  high_at : (a b v : ℤ × ℤ) → pos 0 <ℤ (pos 2 *ℤ v.1 -ℤ (a.1 +ℤ b.1)) → below a b v ≡ false
  high_at a b v h = ap (λ z. int_lt z (pos 0)) (height_some a b v (λ e. omega (arith, ints, h, e))) ∙ not_less (pos 2 *ℤ v.1 -ℤ (a.1 +ℤ b.1)) h

  level_low : (a b v : ℤ × ℤ) → pos 2 *ℤ v.1 -ℤ (a.1 +ℤ b.1) ≡ pos 0 → a.1 -ℤ b.1 ≡ pos 0 → (a.0 -ℤ b.0) <ℤ pos 0 → below a b v ≡ true
  level_low a b v e f h = ap (λ z. int_lt z (pos 0)) (height_none a b v e f) ∙ less_is (a.0 -ℤ b.0) h

  level_high : (a b v : ℤ × ℤ) → pos 2 *ℤ v.1 -ℤ (a.1 +ℤ b.1) ≡ pos 0 → a.1 -ℤ b.1 ≡ pos 0 → pos 0 <ℤ (a.0 -ℤ b.0) → below a b v ≡ false
  level_high a b v e f h = ap (λ z. int_lt z (pos 0)) (height_none a b v e f) ∙ not_less (a.0 -ℤ b.0) h

  -- of a level edge the third place lies higher where it runs ahead, and lower where it runs back
  level_turn : rise ≡ pos 0 → pos 0 <ℤ ((q.0 -ℤ p.0) *ℤ (r.1 -ℤ p.1))
  level_turn e = omega (arith, ints, left, ap (λ t. t *ℤ (r.0 -ℤ p.0)) e)

  third_high : rise ≡ pos 0 → pos 0 <ℤ (q.0 -ℤ p.0) → pos 0 <ℤ (r.1 -ℤ p.1)
  third_high e h = sign_right (q.0 -ℤ p.0) (r.1 -ℤ p.1) (level_turn e) h

  third_low : rise ≡ pos 0 → (q.0 -ℤ p.0) <ℤ pos 0 → (r.1 -ℤ p.1) <ℤ pos 0
  third_low e h = sign_left (q.0 -ℤ p.0) (r.1 -ℤ p.1) (level_turn e) h

  -- three tests
  tests : (f g h f' g' h' : Bool) → f ≡ f' → g ≡ g' → h ≡ h' → (are_same f g && are_same f h) ≡ (are_same f' g' && are_same f' h')
  tests f g h f' g' h' a b c i = are_same (a i) (b i) && are_same (a i) (c i)

  -- they don't all lie on one side of a ray from inside
  not_all : (are_same (below p q p) (below p q q) && are_same (below p q p) (below p q r)) ≡ false
  not_all = elim (sign_of rise) as (λ _. (are_same (below p q p) (below p q q) && are_same (below p q p) (below p q r)) ≡ false) [
    | inl h ↦ tests (below p q p) (below p q q) (below p q r) true false (below p q r) (low_at p q p (omega (arith, ints, h))) (high_at p q q (omega (arith, ints, h))) refl
    | inr (inl h) ↦ tests (below p q p) (below p q q) (below p q r) false true (below p q r) (high_at p q p (omega (arith, ints, h))) (low_at p q q (omega (arith, ints, h))) refl
    | inr (inr e) ↦ elim (sign_of (q.0 -ℤ p.0)) as (λ _. (are_same (below p q p) (below p q q) && are_same (below p q p) (below p q r)) ≡ false) [
      | inl h ↦ (let k = third_high e h in
          tests (below p q p) (below p q q) (below p q r) true true false (level_low p q p (omega (arith, ints, e)) (omega (arith, ints, e)) (omega (arith, ints, h)))
          (level_low p q q (omega (arith, ints, e)) (omega (arith, ints, e)) (omega (arith, ints, h))) (high_at p q r (omega (arith, ints, e, k))))
      | inr (inl h) ↦ (let k = third_low e h in
          tests (below p q p) (below p q q) (below p q r) false false true (level_high p q p (omega (arith, ints, e)) (omega (arith, ints, e)) (omega (arith, ints, h)))
          (level_high p q q (omega (arith, ints, e)) (omega (arith, ints, e)) (omega (arith, ints, h))) (low_at p q r (omega (arith, ints, e, k))))
      | inr (inr f) ↦ absurd (ends_apart p q r left f e)
    ]
  ]

  -- of one from outside the ends of the edge do, or all three lie on one
  abbrev Outside : Type 0
  Outside = (are_same (below q p p) (below q p q) ≡ false) ⊎ ((are_same (below q p p) (below q p q) && are_same (below q p p) (below q p r)) ≡ true)

  none_or_all : Outside
  none_or_all = elim (sign_of rise) as (λ _. Outside) [
    | inl h ↦ inl (λ i. are_same (low_at q p p (omega (arith, ints, h)) i) (high_at q p q (omega (arith, ints, h)) i))
    | inr (inl h) ↦ inl (λ i. are_same (high_at q p p (omega (arith, ints, h)) i) (low_at q p q (omega (arith, ints, h)) i))
    | inr (inr e) ↦ elim (sign_of (q.0 -ℤ p.0)) as (λ _. Outside) [
      | inl h ↦ (let k = third_high e h in
          inr (tests (below q p p) (below q p q) (below q p r) false false false (level_high q p p (omega (arith, ints, e)) (omega (arith, ints, e)) h)
          (level_high q p q (omega (arith, ints, e)) (omega (arith, ints, e)) h) (high_at q p r (omega (arith, ints, e, k)))))
      | inr (inl h) ↦ (let k = third_low e h in
          inr (tests (below q p p) (below q p q) (below q p r) true true true (level_low q p p (omega (arith, ints, e)) (omega (arith, ints, e)) h)
          (level_low q p q (omega (arith, ints, e)) (omega (arith, ints, e)) h) (low_at q p r (omega (arith, ints, e, k)))))
      | inr (inr f) ↦ absurd (ends_apart p q r left f e)
    ]
  ]

  abbrev three : ℤ × ℤ → ℤ × ℤ → ℤ
  three a b = (crossing a b p q +ℤ crossing a b q r) +ℤ crossing a b r p

  -- so the ray from inside crosses them once
  pub from_inside : three p q ≡ pos 1
  from_inside =
      let f = below p q p in
      let g = below p q q in
      let h = below p q r in
      (λ i. (count_up f g (beside p q p q) own_in i +ℤ count_up g h (beside p q q r) (subst (λ z. pos 0 <ℤ z) (sym next_in) left) i)
      +ℤ count_up h f (beside p q r p) (subst (λ z. pos 0 <ℤ z) (sym last_in) left) i)
      ∙ inside f g h not_all

  -- and that from outside not at all
  pub from_outside : three q p ≡ pos 0
  from_outside =
      let f = below q p p in
      let g = below q p q in
      let h = below q p r in
      (λ i. (count_down f g (beside q p p q) own_out i +ℤ count_up g h (beside q p q r) (subst (λ z. pos 0 <ℤ z) (sym next_out) left) i)
      +ℤ count_up h f (beside q p r p) (subst (λ z. pos 0 <ℤ z) (sym last_out) left) i)
      ∙ outside f g h none_or_all

-- a reversed edge counts the other way
back_counted : (f t : Bool) (s : ℤ) → counted t f (neg_ℤ s) ≡ neg_ℤ (counted f t s)
back_counted true true s = refl
back_counted false false s = refl
back_counted true false s = elim (sign_of s) as (λ _. counted false true (neg_ℤ s) ≡ neg_ℤ (counted true false s)) [
  | inl h ↦ count_down false true (neg_ℤ s) (omega (arith, ints, h)) ∙ sym (ap neg_ℤ (count_up true false s h))
  | inr (inl h) ↦ count_up false true (neg_ℤ s) (omega (arith, ints, h)) ∙ sym (ap neg_ℤ (count_down true false s h))
  | inr (inr e) ↦ (λ i. counted false true (neg_ℤ (e i))) ∙ sym (λ i. neg_ℤ (counted true false (e i)))
]
back_counted false true s = elim (sign_of s) as (λ _. counted true false (neg_ℤ s) ≡ neg_ℤ (counted false true s)) [
  | inl h ↦ count_down true false (neg_ℤ s) (omega (arith, ints, h)) ∙ sym (ap neg_ℤ (count_up false true s h))
  | inr (inl h) ↦ count_up true false (neg_ℤ s) (omega (arith, ints, h)) ∙ sym (ap neg_ℤ (count_down false true s h))
  | inr (inr e) ↦ (λ i. counted true false (neg_ℤ (e i))) ∙ sym (λ i. neg_ℤ (counted false true (e i)))
]

first_back : (x y z : ℤ) → first_of_three (neg_ℤ x) (neg_ℤ y) (neg_ℤ z) ≡ neg_ℤ (first_of_three x y z)
first_back x y z =
    (λ i. if none_back x i then if none_back y i then neg_ℤ z else neg_ℤ y else neg_ℤ x) ∙ by (int_eq x (pos 0)) (int_eq y (pos 0))
  where
    none_back : (w : ℤ) → int_eq (neg_ℤ w) (pos 0) ≡ int_eq w (pos 0)
    none_back w = elim (sign_of w) as (λ _. int_eq (neg_ℤ w) (pos 0) ≡ int_eq w (pos 0)) [
      | inl h ↦ not_none (neg_ℤ w) (λ e. omega (arith, ints, h, e)) ∙ sym (not_none w (λ e. omega (arith, ints, h, e)))
      | inr (inl h) ↦ not_none (neg_ℤ w) (λ e. omega (arith, ints, h, e)) ∙ sym (not_none w (λ e. omega (arith, ints, h, e)))
      | inr (inr e) ↦ (λ i. int_eq (neg_ℤ (e i)) (pos 0)) ∙ sym (λ i. int_eq (e i) (pos 0))
    ]

    by : (b c : Bool) → (if b then if c then neg_ℤ z else neg_ℤ y else neg_ℤ x) ≡ neg_ℤ (if b then if c then z else y else x)
    by true true = refl
    by true false = refl
    by false c = refl

beside_back : (a b p q : ℤ × ℤ) → beside a b q p ≡ neg_ℤ (beside a b p q)
beside_back a b p q =
    let x = q.0 -ℤ p.0 in
    let y = q.1 -ℤ p.1 in
    let m = a.0 +ℤ b.0 -ℤ pos 2 *ℤ p.0 in
    let n = a.1 +ℤ b.1 -ℤ pos 2 *ℤ p.1 in
    let du = b.0 -ℤ a.0 in
    let dv = b.1 -ℤ a.1 in
    let s : p.0 -ℤ q.0 ≡ neg_ℤ x = omega (arith, ints) in
    let t : p.1 -ℤ q.1 ≡ neg_ℤ y = omega (arith, ints) in
    let u : a.0 +ℤ b.0 -ℤ pos 2 *ℤ q.0 ≡ m -ℤ (x +ℤ x) = omega (arith, ints) in
    let v : a.1 +ℤ b.1 -ℤ pos 2 *ℤ q.1 ≡ n -ℤ (y +ℤ y) = omega (arith, ints) in
    let one : neg_ℤ x *ℤ (n -ℤ (y +ℤ y)) -ℤ neg_ℤ y *ℤ (m -ℤ (x +ℤ x)) ≡ neg_ℤ (x *ℤ n -ℤ y *ℤ m) =
    omega (arith, ints, neg-mul x (n -ℤ (y +ℤ y)), neg-mul y (m -ℤ (x +ℤ x)), mul-sub x n (y +ℤ y), mul-sub y m (x +ℤ x), mul-add x y y, mul-add y x x, *ℤ_comm x y) in
    let two : neg_ℤ x *ℤ dv -ℤ neg_ℤ y *ℤ du ≡ neg_ℤ (x *ℤ dv -ℤ y *ℤ du) = omega (arith, ints, neg-mul x dv, neg-mul y du) in
    let three : neg_ℤ x *ℤ du +ℤ neg_ℤ y *ℤ dv ≡ neg_ℤ (x *ℤ du +ℤ y *ℤ dv) = omega (arith, ints, neg-mul x du, neg-mul y dv) in
    (λ i. first_of_three (s i *ℤ v i -ℤ t i *ℤ u i) (s i *ℤ dv -ℤ t i *ℤ du) (s i *ℤ du +ℤ t i *ℤ dv))
    ∙ (λ i. first_of_three (one i) (two i) (three i)) ∙ first_back (x *ℤ n -ℤ y *ℤ m) (x *ℤ dv -ℤ y *ℤ du) (x *ℤ du +ℤ y *ℤ dv)

pub crossing_back : (a b p q : ℤ × ℤ) → crossing a b q p ≡ neg_ℤ (crossing a b p q)
crossing_back a b p q = ap (counted (below a b q) (below a b p)) (beside_back a b p q) ∙ back_counted (below a b p) (below a b q) (beside a b p q)
