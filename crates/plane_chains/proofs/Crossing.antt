-- Edges that cross have boxes that touch, and no end in common.
use Rattle.std.proofs.Common.{◌≡◌, ◌∙◌, ◌==◌, ℕ, ℤ, Bool, true, false, ap, arith, inl, inr, pos, neg_ℤ, refl, sym, ◌+ℤ◌, ◌-ℤ◌, ◌*ℤ◌, ◌≤ℤ◌, ◌<ℤ◌}
use Rattle.std.specs.Prelude.{◌⊎◌, ◌&&◌, ◌||◌, int_lt}
use Rattle.std.specs.Int.{int_max, int_min}
use Rattle.std.proofs.Math.IntN.{*ℤ_comm}
use Rattle.std.proofs.lemmas.Bool.{and_from, and_parts, eqb-true, or_cases}
use Rattle.std.proofs.lemmas.Int.{by_lt_z, ints}
use Rattle.box_tree.specs.Touching.{overlap, touches}
use Rattle.chain_laws.specs.Products.{add-mul, mul-neg, mul-sub, neg-mul, pos_mul}
use Rattle.face_plane.specs.Planes.{Plane, orient, turn}
use Rattle.plane_laws.specs.Areas.{Place, area, area_is, areas_add, areas_balance}
use Rattle.plane_laws.specs.Moved.{nonneg_mul}
use Rattle.sheet_terms.specs.Chains.{are_opposite, cross}
use Rattle.plane_chains.specs.EdgeBoxes.{edge_box}
use Rattle.plane_chains.specs.Pairs.{have_common}

-- one number is above 0 and the other below
abbrev pub Opposite : ℤ → ℤ → Type 0
Opposite x y = ((x <ℤ pos 0) × (pos 0 <ℤ y)) ⊎ ((pos 0 <ℤ x) × (y <ℤ pos 0))

less : (x y : ℤ) → int_lt x y ≡ true → x <ℤ y
less x y h = grind (arith, ints)

pub opposite : (x y : ℤ) → are_opposite x y ≡ true → Opposite x y
opposite x y h = elim (or_cases (int_lt x (pos 0) && int_lt (pos 0) y) (int_lt (pos 0) x && int_lt y (pos 0)) h) as (λ _. Opposite x y) [
  | inl l ↦ let p = and_parts (int_lt x (pos 0)) (int_lt (pos 0) y) l in inl (less x (pos 0) p.0, less (pos 0) y p.1)
  | inr r ↦ let p = and_parts (int_lt (pos 0) x) (int_lt y (pos 0)) r in inr (less (pos 0) x p.0, less y (pos 0) p.1)
]

-- means with the same sum of weights: what is at most the members of one is at most what is at least those of the other
mean_order : (p q r s x y z w l h : ℤ) → pos 0 <ℤ p → pos 0 <ℤ q → pos 0 <ℤ r → pos 0 <ℤ s → p +ℤ q ≡ r +ℤ s → p *ℤ x +ℤ q *ℤ y ≡ r *ℤ z +ℤ s *ℤ w →
    l ≤ℤ x → l ≤ℤ y → z ≤ℤ h → w ≤ℤ h → l ≤ℤ h
mean_order p q r s x y z w l h hp hq hr hs same e lx ly zh wh = by_lt_z h l above (λ k. k) where
  above : h <ℤ l → l ≤ℤ h
  above k =
      let gap = pos_mul (p +ℤ q) (l -ℤ h) (omega (arith, ints, hp, hq)) (omega (arith, ints, k)) in
      let a = nonneg_mul p (x -ℤ l) (omega (arith, ints, hp)) (omega (arith, ints, lx)) in
      let b = nonneg_mul q (y -ℤ l) (omega (arith, ints, hq)) (omega (arith, ints, ly)) in
      let c = nonneg_mul r (h -ℤ z) (omega (arith, ints, hr)) (omega (arith, ints, zh)) in
      let d = nonneg_mul s (h -ℤ w) (omega (arith, ints, hs)) (omega (arith, ints, wh)) in
      let level : (p +ℤ q) *ℤ h ≡ (r +ℤ s) *ℤ h = ap (λ (n : ℤ). n *ℤ h) same in
      absurd (omega (
        arith,
        ints,
        gap,
        a,
        b,
        c,
        d,
        level,
        e,
        mul-sub (p +ℤ q) l h,
        add-mul p q l,
        add-mul r s h,
        mul-sub p x l,
        mul-sub q y l,
        mul-sub r h z,
        mul-sub s h w,
      ))

-- numbers between which both ends of an edge lie
pub record AreEndsOf (low high a b : ℤ) : Type 0 where
  pub low_a : low ≤ℤ a
  pub low_b : low ≤ℤ b
  pub high_a : a ≤ℤ high
  pub high_b : b ≤ℤ high

pub ends_of : (a b : ℤ) → AreEndsOf (int_min a b) (int_max a b) a b
ends_of a b = record { low_a = grind (arith, ints); low_b = grind (arith, ints); high_a = grind (arith, ints); high_b = grind (arith, ints) }

-- so the ranges of two edges that cross overlap
pub ranges_meet : (s s' t t' a b c d low high low' high' : ℤ) → t' -ℤ t +ℤ s' -ℤ s ≡ pos 0 → a *ℤ t' -ℤ b *ℤ t +ℤ c *ℤ s' -ℤ d *ℤ s ≡ pos 0 → Opposite s s' →
    Opposite t t' → AreEndsOf low high a b → AreEndsOf low' high' c d → (low ≤ℤ high') × (low' ≤ℤ high)
ranges_meet s s' t t' a b c d low high low' high' sum balance (inl i) (inl j) m n = absurd (omega (arith, ints, sum, i.0, i.1, j.0, j.1))
ranges_meet s s' t t' a b c d low high low' high' sum balance (inr i) (inr j) m n = absurd (omega (arith, ints, sum, i.0, i.1, j.0, j.1))
ranges_meet s s' t t' a b c d low high low' high' sum balance (inl i) (inr j) m n =
    let p : pos 0 <ℤ neg_ℤ t' = omega (arith, ints, j.1) in
    let r : pos 0 <ℤ neg_ℤ s = omega (arith, ints, i.0) in
    let weights : t +ℤ neg_ℤ t' ≡ s' +ℤ neg_ℤ s = omega (arith, ints, sum) in
    let means : t *ℤ b +ℤ neg_ℤ t' *ℤ a ≡ s' *ℤ c +ℤ neg_ℤ s *ℤ d =
    omega (arith, ints, balance, neg-mul t' a, neg-mul s d, *ℤ_comm t b, *ℤ_comm t' a, *ℤ_comm s' c, *ℤ_comm s d) in (
      mean_order t (neg_ℤ t') s' (neg_ℤ s) b a c d low high' j.0 p i.1 r weights means m.low_b m.low_a n.high_a n.high_b,
      mean_order s' (neg_ℤ s) t (neg_ℤ t') c d b a low' high i.1 r j.0 p (sym weights) (sym means) n.low_a n.low_b m.high_b m.high_a,
    )
ranges_meet s s' t t' a b c d low high low' high' sum balance (inr i) (inl j) m n =
    let p : pos 0 <ℤ neg_ℤ t = omega (arith, ints, j.0) in
    let r : pos 0 <ℤ neg_ℤ s' = omega (arith, ints, i.1) in
    let weights : t' +ℤ neg_ℤ t ≡ s +ℤ neg_ℤ s' = omega (arith, ints, sum) in
    let means : t' *ℤ a +ℤ neg_ℤ t *ℤ b ≡ s *ℤ d +ℤ neg_ℤ s' *ℤ c =
    omega (arith, ints, balance, neg-mul t b, neg-mul s' c, *ℤ_comm t b, *ℤ_comm t' a, *ℤ_comm s' c, *ℤ_comm s d) in (
      mean_order t' (neg_ℤ t) s (neg_ℤ s') a b d c low high' j.1 p i.0 r weights means m.low_a m.low_b n.high_b n.high_a,
      mean_order s (neg_ℤ s') t' (neg_ℤ t) d c a b low' high i.0 r j.1 p (sym weights) (sym means) n.low_b n.low_a m.high_a m.high_b,
    )

-- turns as areas
place : ℤ × ℤ → Place
place p = record { x = p.0; y = p.1 }

swapped_place : ℤ × ℤ → Place
swapped_place p = record { x = p.1; y = p.0 }

turn_area : (a b c : ℤ × ℤ) → turn a b c ≡ area (record { x = a.0; y = a.1 }) (record { x = b.0; y = b.1 }) (record { x = c.0; y = c.1 })
turn_area a b c =
    (λ j. (b.0 -ℤ a.0) *ℤ (c.1 -ℤ a.1) -ℤ *ℤ_comm (b.1 -ℤ a.1) (c.0 -ℤ a.0) j)
    ∙ area_is (record { x = a.0; y = a.1 }) (record { x = b.0; y = b.1 }) (record { x = c.0; y = c.1 })

-- how the turns of two edges with the ends of each other balance
pub turns_add : (a b c d : ℤ × ℤ) → turn c d b -ℤ turn c d a +ℤ turn a b d -ℤ turn a b c ≡ pos 0
turns_add a b c d =
    (λ j. turn_area c d b j -ℤ turn_area c d a j +ℤ turn_area a b d j -ℤ turn_area a b c j)
    ∙ areas_add (record { x = a.0; y = a.1 }) (record { x = b.0; y = b.1 }) (record { x = c.0; y = c.1 }) (record { x = d.0; y = d.1 })

pub turns_balance_u : (a b c d : ℤ × ℤ) → a.0 *ℤ turn c d b -ℤ b.0 *ℤ turn c d a +ℤ c.0 *ℤ turn a b d -ℤ d.0 *ℤ turn a b c ≡ pos 0
turns_balance_u a b c d =
    (λ j. a.0 *ℤ turn_area c d b j -ℤ b.0 *ℤ turn_area c d a j +ℤ c.0 *ℤ turn_area a b d j -ℤ d.0 *ℤ turn_area a b c j)
    ∙ areas_balance (record { x = a.0; y = a.1 }) (record { x = b.0; y = b.1 }) (record { x = c.0; y = c.1 }) (record { x = d.0; y = d.1 })

-- with the coordinates exchanged a turn is that of the points the other way
turn_back : (a b c : ℤ × ℤ) → turn (a.1, a.0) (b.1, b.0) (c.1, c.0) ≡ neg_ℤ (turn a b c)
turn_back a b c = omega (arith, ints)

pub turns_balance_v : (a b c d : ℤ × ℤ) → a.1 *ℤ turn c d b -ℤ b.1 *ℤ turn c d a +ℤ c.1 *ℤ turn a b d -ℤ d.1 *ℤ turn a b c ≡ pos 0
turns_balance_v a b c d =
    let swapped : a.1 *ℤ neg_ℤ (turn c d b) -ℤ b.1 *ℤ neg_ℤ (turn c d a) +ℤ c.1 *ℤ neg_ℤ (turn a b d) -ℤ d.1 *ℤ neg_ℤ (turn a b c) ≡ pos 0 =
    (λ j. a.1 *ℤ sym (turn_back c d b) j -ℤ b.1 *ℤ sym (turn_back c d a) j +ℤ c.1 *ℤ sym (turn_back a b d) j -ℤ d.1 *ℤ sym (turn_back a b c) j)
    ∙ turns_balance_u (a.1, a.0) (b.1, b.0) (c.1, c.0) (d.1, d.0) in
    omega (arith, ints, swapped, mul-neg a.1 (turn c d b), mul-neg b.1 (turn c d a), mul-neg c.1 (turn a b d), mul-neg d.1 (turn a b c))

-- ranges overlap
overlaps : (low high low' high' : ℤ) → low ≤ℤ high → low' ≤ℤ high' → low ≤ℤ high' → low' ≤ℤ high → overlap low' high' low high ≡ true
overlaps low high low' high' a b c d = grind (arith, ints)

-- the boxes of edges that cross touch
pub boxes_touch : (at : Plane) (d e : ℕ × ℕ) → cross at d e ≡ true → touches (edge_box at e) (edge_box at d) ≡ true
boxes_touch at d e h =
    let p = and_parts (are_opposite (orient at d.0 d.1 e.0) (orient at d.0 d.1 e.1)) (are_opposite (orient at e.0 e.1 d.0) (orient at e.0 e.1 d.1)) h in
    let a = at d.0 in
    let b = at d.1 in
    let u = at e.0 in
    let v = at e.1 in
    let one = opposite (turn a b u) (turn a b v) p.0 in
    let other = opposite (turn u v a) (turn u v b) p.1 in
    let sum = turns_add a b u v in
    let m0 = ends_of a.0 b.0 in
    let n0 = ends_of u.0 v.0 in
    let m1 = ends_of a.1 b.1 in
    let n1 = ends_of u.1 v.1 in
    let x = ranges_meet (turn a b u) (turn a b v) (turn u v a) (turn u v b) a.0 b.0 u.0 v.0 (int_min a.0 b.0) (int_max a.0 b.0) (int_min u.0 v.0) (int_max u.0 v.0) sum
    (turns_balance_u a b u v) one other m0 n0 in
    let y = ranges_meet (turn a b u) (turn a b v) (turn u v a) (turn u v b) a.1 b.1 u.1 v.1 (int_min a.1 b.1) (int_max a.1 b.1) (int_min u.1 v.1) (int_max u.1 v.1) sum
    (turns_balance_v a b u v) one other m1 n1 in
    and_from (overlap (int_min u.0 v.0) (int_max u.0 v.0) (int_min a.0 b.0) (int_max a.0 b.0) && overlap (int_min u.1 v.1) (int_max u.1 v.1) (int_min a.1 b.1) (int_max a.1 b.1)) true
    (and_from (overlap (int_min u.0 v.0) (int_max u.0 v.0) (int_min a.0 b.0) (int_max a.0 b.0)) (overlap (int_min u.1 v.1) (int_max u.1 v.1) (int_min a.1 b.1) (int_max a.1 b.1))
    (overlaps (int_min a.0 b.0) (int_max a.0 b.0) (int_min u.0 v.0) (int_max u.0 v.0) (between m0) (between n0) x.0 x.1)
    (overlaps (int_min a.1 b.1) (int_max a.1 b.1) (int_min u.1 v.1) (int_max u.1 v.1) (between m1) (between n1) y.0 y.1))
    refl
  where
    between : {low high a b : ℤ} → AreEndsOf low high a b → low ≤ℤ high
    between {low} {high} {a} {b} m = omega (arith, ints, m.low_a, m.high_a)

-- an end in common makes a turn 0
turn_first : (a b : ℤ × ℤ) → turn a b a ≡ pos 0
turn_first a b = omega (arith, ints, mul-sub (b.0 -ℤ a.0) a.1 a.1, mul-sub (b.1 -ℤ a.1) a.0 a.0)

turn_second : (a b : ℤ × ℤ) → turn a b b ≡ pos 0
turn_second a b = omega (arith, ints, *ℤ_comm (b.0 -ℤ a.0) (b.1 -ℤ a.1))

zero_first : (x y : ℤ) → x ≡ pos 0 → are_opposite x y ≡ false
zero_first x y e = ap (λ (z : ℤ). are_opposite z y) e

zero_second : (x y : ℤ) → y ≡ pos 0 → are_opposite x y ≡ false
zero_second x y e = ap (are_opposite x) e ∙ none (int_lt x (pos 0)) (int_lt (pos 0) x) where
  none : (p q : Bool) → ((p && false) || (q && false)) ≡ false
  none true true = refl
  none true false = refl
  none false true = refl
  none false false = refl

pub common_apart : (at : Plane) (d e : ℕ × ℕ) → have_common d e ≡ true → cross at d e ≡ false
common_apart at d e h =
    ap (λ b. b && are_opposite (orient at e.0 e.1 d.0) (orient at e.0 e.1 d.1)) (by (or_cases ((d.0 == e.0) || (d.0 == e.1) || (d.1 == e.0)) (d.1 == e.1) h))
  where
    Is : Type 0
    Is = are_opposite (orient at d.0 d.1 e.0) (orient at d.0 d.1 e.1) ≡ false

    first_first : d.0 ≡ e.0 → Is
    first_first same = zero_first (orient at d.0 d.1 e.0) (orient at d.0 d.1 e.1) (ap (orient at d.0 d.1) (sym same) ∙ turn_first (at d.0) (at d.1))

    first_second : d.0 ≡ e.1 → Is
    first_second same = zero_second (orient at d.0 d.1 e.0) (orient at d.0 d.1 e.1) (ap (orient at d.0 d.1) (sym same) ∙ turn_first (at d.0) (at d.1))

    second_first : d.1 ≡ e.0 → Is
    second_first same = zero_first (orient at d.0 d.1 e.0) (orient at d.0 d.1 e.1) (ap (orient at d.0 d.1) (sym same) ∙ turn_second (at d.0) (at d.1))

    second_second : d.1 ≡ e.1 → Is
    second_second same = zero_second (orient at d.0 d.1 e.0) (orient at d.0 d.1 e.1) (ap (orient at d.0 d.1) (sym same) ∙ turn_second (at d.0) (at d.1))

    two : ((d.0 == e.0) ≡ true) ⊎ ((d.0 == e.1) ≡ true) → Is
    two (inl i) = first_first (eqb-true d.0 e.0 i)
    two (inr i) = first_second (eqb-true d.0 e.1 i)

    three : (((d.0 == e.0) || (d.0 == e.1)) ≡ true) ⊎ ((d.1 == e.0) ≡ true) → Is
    three (inl i) = two (or_cases (d.0 == e.0) (d.0 == e.1) i)
    three (inr i) = second_first (eqb-true d.1 e.0 i)

    by : (((d.0 == e.0) || (d.0 == e.1) || (d.1 == e.0)) ≡ true) ⊎ ((d.1 == e.1) ≡ true) → Is
    by (inl i) = three (or_cases ((d.0 == e.0) || (d.0 == e.1)) (d.1 == e.0) i)
    by (inr i) = second_second (eqb-true d.1 e.1 i)
