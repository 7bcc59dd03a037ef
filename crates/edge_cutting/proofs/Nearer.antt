-- Places inside an edge: how many steps behind its start they lie tells which are near a piece of it, which lie before others, and that they differ.
use Rattle.std.specs.Prelude.{◌≡◌, ◌≢◌, ℕ, zero, suc, ◌+◌, ◌*◌, ◌<◌, ◌≤◌, ℤ, pos, negsuc, ◌+ℤ◌, ◌-ℤ◌, ◌*ℤ◌, ◌≤ℤ◌, ◌<ℤ◌, List, true, false, Bool, not, ◌&&◌, ◌==◌, int_lt, nat_lt, length, unsigned_abs}
use Rattle.std.specs.Ordering.{int_eq}
use Rattle.std.proofs.Common.{arith, refl, sym, ap, subst, ◌∙◌, inl, inr}
use Rattle.std.proofs.Math.IntN.{*ℤ_comm}
use Rattle.std.proofs.Math.Nat.{mul-lt-mul_of_pos_right}
use Rattle.std.proofs.lemmas.Bool.{and_from, and_left, and_parts, both_ways, cases_Bool, cases_lt, eqb-false, false_from_ne_true, le-ltb, lt-ltb, ne_eqb, not-true, not_from_false}
use Rattle.std.proofs.lemmas.Bool.Decides.{Decides-int_eq}
use Rattle.std.proofs.lemmas.Int.{by_lt_z, ints}
use Rattle.std.proofs.lemmas.Nat.{mul-le}
use Rattle.chain_terms.specs.Chains.{one_if}
use Rattle.chain_laws.specs.Products.{mul-add, mul-assoc, pos_mul}
use Rattle.plane_laws.specs.Areas.{exchanged}
use Rattle.plane_laws.specs.Moved.{nonneg_mul}
use Rattle.face_plane.specs.Planes.{point_at}
use Rattle.mesh_terms.specs.Points.{coordinate_of}
use Rattle.box_tree.specs.Touching.{touches}
use Rattle.sheet_terms.specs.Cuts.{are_in_line, is_in_box, is_inside, is_nearer, scalar, way}
use Rattle.tidy_terms.specs.PointTriples.{same_point}
use Rattle.edge_cutting.specs.Boxes.{point_box}
use Rattle.edge_cutting.specs.Inside.{AreApart, is_on_line}
use Rattle.edge_cutting.specs.Passed.{far, is_passed, stride}
use Rattle.edge_cutting.specs.Spans.{LeadsTo, box_between}
use Rattle.edge_cutting.specs.declared.steps.Steps.{Steps}
use Rattle.edge_cutting.proofs.Between.{keeps_order, more_times}
use Rattle.edge_cutting.proofs.Multiples.{IsPrimitive, IsTimes, cancel, some_of}
use Rattle.edge_cutting.proofs.OnLine.{IsBehind, behind, boxed_from, from_boxed, from_near, near_from, on_line, span_behind}

-- a number that is some has a size
size_some : (z : ℤ) → z ≢ pos 0 → 0 < unsigned_abs z
size_some (pos zero) h = absurd (h refl)
size_some (pos (suc n)) h = omega arith
size_some (negsuc n) h = omega arith

-- and a square above 0
square_some : (z : ℤ) → z ≢ pos 0 → pos 0 <ℤ (z *ℤ z)
square_some (pos zero) h = absurd (h refl)
square_some (pos (suc n)) h = pos_mul (pos (suc n)) (pos (suc n)) (omega (arith, ints)) (omega (arith, ints))
square_some (negsuc n) h = pos_mul (pos (suc n)) (pos (suc n)) (omega (arith, ints)) (omega (arith, ints))

square_weak : (z : ℤ) → pos 0 ≤ℤ (z *ℤ z)
square_weak (pos n) = nonneg_mul (pos n) (pos n) (omega (arith, ints)) (omega (arith, ints))
square_weak (negsuc n) = nonneg_mul (pos (suc n)) (pos (suc n)) (omega (arith, ints)) (omega (arith, ints))

-- a way is one multiple alone
same_factor : (k m a b c u v w : ℤ) → IsPrimitive a b c → IsTimes k a b c u v w → IsTimes m a b c u v w → k ≡ m
same_factor k m a b c u v w one h i = elim (some_of a b c one) as (λ _. k ≡ m) [
  | inl n ↦ cancel a k m n (*ℤ_comm a k ∙ sym h.x ∙ i.x ∙ *ℤ_comm m a)
  | inr (inl n) ↦ cancel b k m n (*ℤ_comm b k ∙ sym h.y ∙ i.y ∙ *ℤ_comm m b)
  | inr (inr n) ↦ cancel c k m n (*ℤ_comm c k ∙ sym h.z ∙ i.z ∙ *ℤ_comm m c)
]

-- points with the same coordinates are one
pub same_from : (p q : List ℤ) → coordinate_of p 0 ≡ coordinate_of q 0 → coordinate_of p 1 ≡ coordinate_of q 1 → coordinate_of p 2 ≡ coordinate_of q 2 → same_point p q ≡ true
same_from p q x y z =
    let t : ℕ → Bool = λ i. int_eq (coordinate_of p i) (coordinate_of q i) in
    and_from (t 0 && t 1) (t 2)
    (and_from (t 0) (t 1) ((Decides-int_eq (coordinate_of p 0) (coordinate_of q 0)).1 x) ((Decides-int_eq (coordinate_of p 1) (coordinate_of q 1)).1 y))
    ((Decides-int_eq (coordinate_of p 2) (coordinate_of q 2)).1 z)

-- tests of multiples are those of the numbers
pub times_less : (m n k : ℕ) → 0 < k → nat_lt (m * k) (n * k) ≡ nat_lt m n
times_less m n k some = elim (cases_lt m n) as (λ _. nat_lt (m * k) (n * k) ≡ nat_lt m n) [
  | inl l ↦ lt-ltb (m * k) (n * k) (mul-lt-mul_of_pos_right l some) ∙ sym (lt-ltb m n l)
  | inr l ↦ le-ltb (m * k) (n * k) (mul-le n k m k l (omega arith)) ∙ sym (le-ltb m n l)
]

module _ (points : List (List ℤ)) (a b : ℕ) (s : Steps) (some : 0 < s.count) (leads : LeadsTo (point_at points a) (point_at points b) s) where
  abbrev p : List ℤ
  p = point_at points a

  abbrev q : List ℤ
  q = point_at points b

  abbrev at : ℕ → List ℤ
  at v = point_at points v

  -- place v lies k steps behind a
  abbrev pub Stands : ℕ → ℤ → Type 0
  Stands v k = IsBehind p q s some leads (at v) k

  -- a step has a length
  pub stride_some : 0 < stride s
  stride_some = elim (some_of (coordinate_of s.step 0) (coordinate_of s.step 1) (coordinate_of s.step 2) leads.least) as (λ _. 0 < stride s) [
    | inl n ↦ omega (arith, size_some (coordinate_of s.step 0) n)
    | inr (inl n) ↦ omega (arith, size_some (coordinate_of s.step 1) n)
    | inr (inr n) ↦ omega (arith, size_some (coordinate_of s.step 2) n)
  ]

  -- a lies at the start, b at the end
  at_start : Stands a (pos 0)
  at_start = record { x = omega (arith, ints); y = omega (arith, ints); z = omega (arith, ints) }

  at_end : Stands b (pos s.count)
  at_end = record { x = leads.end_x; y = leads.end_y; z = leads.end_z }

  -- places that lie equally far behind a lie at one point
  pub same_place : (v w : ℕ) (k : ℤ) → Stands v k → Stands w k → same_point (at v) (at w) ≡ true
  same_place v w k h i = same_from (at v) (at w) (omega (arith, ints, h.x, i.x)) (omega (arith, ints, h.y, i.y)) (omega (arith, ints, h.z, i.z))

  -- a place that is another lies as far
  moved : (v w : ℕ) (k : ℤ) → v ≡ w → Stands w k → Stands v k
  moved v w k e h = subst (λ u. Stands u k) (sym e) h

  unlike : (v w : ℕ) (k m : ℤ) → Stands v k → Stands w m → k ≢ m → (v == w) ≡ false
  unlike v w k m h i d = ne_eqb v w (λ e. d (same_factor k m _ _ _ _ _ _ leads.least h (moved v w m e i)))

  module _ (apart : AreApart points) (la : a < length points) (lb : b < length points) (v : ℕ) (low : v < length points) where
    -- the parts of the test
    record HasParts : Type 0 where
      not_a : (v == a) ≡ false
      not_b : (v == b) ≡ false
      boxed : is_in_box p q (at v) ≡ true
      line : is_on_line points a b v ≡ true

    parts : is_inside points a b v ≡ true → HasParts
    parts h =
        let one = and_parts (not (v == a) && not (v == b) && is_in_box p q (at v)) (are_in_line p q (at v)) h in
        let two = and_parts (not (v == a) && not (v == b)) (is_in_box p q (at v)) one.0 in
        let three = and_parts (not (v == a)) (not (v == b)) two.0 in
        record { not_a = not-true (v == a) three.0; not_b = not-true (v == b) three.1; boxed = two.1; line = one.1 }

    joined : HasParts → is_inside points a b v ≡ true
    joined h =
        and_from (not (v == a) && not (v == b) && is_in_box p q (at v)) (are_in_line p q (at v))
        (and_from (not (v == a) && not (v == b)) (is_in_box p q (at v))
        (and_from (not (v == a)) (not (v == b)) (not_from_false (v == a) h.not_a) (not_from_false (v == b) h.not_b)) h.boxed) h.line

    -- a place inside lies some steps behind a, but not all
    record IsWithin (k : ℤ) : Type 0 where
      above : pos 0 <ℤ k
      before : k <ℤ pos s.count

    within_from : (k : ℤ) → Stands v k → is_inside points a b v ≡ true → IsWithin k
    within_from k h inside =
        let t = parts inside in
        let from = boxed_from p q s some leads (at v) k h t.boxed in
        record {
          above = by_lt_z (pos 0) k (λ l. l) (λ l.
              let none : k ≡ pos 0 = omega (arith, ints, l, from.low) in
              absurd (eqb-false v a t.not_a (apart.apart v a low la (same_place v a (pos 0) (subst (λ j. Stands v j) none h) at_start))));
          before = by_lt_z k (pos s.count) (λ l. l) (λ l.
              let whole : k ≡ pos s.count = omega (arith, ints, l, from.high) in
              absurd (eqb-false v b t.not_b (apart.apart v b low lb (same_place v b (pos s.count) (subst (λ j. Stands v j) whole h) at_end))));
        }

    -- and what lies so is inside
    inside_from : (k : ℤ) → Stands v k → IsWithin k → is_inside points a b v ≡ true
    inside_from k h w = joined (record {
      not_a = unlike v a k (pos 0) h at_start (λ e. omega (arith, ints, e, w.above));
      not_b = unlike v b k (pos s.count) h at_end (λ e. omega (arith, ints, e, w.before));
      boxed = from_boxed p q s some leads (at v) k h (record { low = omega (arith, ints, w.above); high = omega (arith, ints, w.before) });
      line = on_line p q s some leads (at v) k h;
    })

    -- how many steps that is
    pub record Inner : Type 0 where
      pub steps : ℕ
      pub stands : Stands v (pos steps)
      pub more : 0 < steps
      pub less : steps < s.count
      pub far : far points a v ≡ steps * stride s

    inner_at : (k : ℤ) → Stands v k → IsWithin k → Inner
    inner_at (pos m) h w = record {
      steps = m;
      stands = h;
      more = omega (arith, ints, w.above);
      less = omega (arith, ints, w.before);
      far = span_behind p q s some leads (at v) m h;
    }
    inner_at (negsuc m) h w = absurd (omega (arith, ints, w.above))

    pub inner : is_inside points a b v ≡ true → Inner
    inner h =
        let m = behind p q s some leads (at v) (parts h).line in
        inner_at m.factor m.times (within_from m.factor m.times h)

    -- the test of a place near a piece
    abbrev pub is_near : ℕ → ℕ → Bool
    is_near j l = touches (point_box (at v)) (box_between s j l) && is_on_line points a b v

    -- what is near a piece within the edge lies inside
    pub near_inside : (j l : ℕ) → 0 < j → j ≤ l → l < s.count → is_near j l ≡ true → is_inside points a b v ≡ true
    near_inside j l more order less h =
        let t = and_parts (touches (point_box (at v)) (box_between s j l)) (is_on_line points a b v) h in
        let m = behind p q s some leads (at v) t.1 in
        let from = near_from p q s some leads (at v) j l m.factor order m.times t.0 in
        inside_from m.factor m.times (record { above = omega (arith, ints, from.low, more); before = omega (arith, ints, from.high, less) })

    -- a place that lies inside is near the piece where it lies between its ends
    near_where : (j l : ℕ) → 0 < j → j ≤ l → l < s.count → (i : Inner) → is_near j l ≡ true → (j ≤ i.steps) × (i.steps ≤ l)
    near_where j l more order less i h =
        let t = and_parts (touches (point_box (at v)) (box_between s j l)) (is_on_line points a b v) h in
        let from = near_from p q s some leads (at v) j l (pos i.steps) order i.stands t.0 in
        (omega (arith, ints, from.low), omega (arith, ints, from.high))

    near_there : (j l : ℕ) → (i : Inner) → j ≤ i.steps → i.steps ≤ l → is_near j l ≡ true
    near_there j l i h k =
        and_from (touches (point_box (at v)) (box_between s j l)) (is_on_line points a b v)
        (from_near p q s some leads (at v) j l (pos i.steps) i.stands (record { low = omega (arith, ints, h); high = omega (arith, ints, k) }))
        (on_line p q s some leads (at v) (pos i.steps) i.stands)

    -- it is passed where it lies before
    passed_where : (t : ℕ) (i : Inner) → is_inside points a b v ≡ true → is_passed points a b s t v ≡ nat_lt i.steps t
    passed_where t i inside =
        ap (λ c. c && nat_lt (far points a v) (t * stride s)) inside ∙ ap (λ n. nat_lt n (t * stride s)) i.far ∙ times_less i.steps t (stride s) stride_some

    -- what is passed after a piece was passed before it, or is near it
    pub passed_next : (j l : ℕ) → 0 < j → j ≤ l → l < s.count → one_if (is_passed points a b s j v) + one_if (is_near j l) ≡ one_if (is_passed points a b s (l + 1) v)
    passed_next j l more order less =
        elim (cases_Bool (is_inside points a b v)) as (λ _. one_if (is_passed points a b s j v) + one_if (is_near j l) ≡ one_if (is_passed points a b s (l + 1) v)) [
          | inr out ↦
              let far_out : is_near j l ≡ false = false_from_ne_true (is_near j l) (λ y. both_ways (is_inside points a b v) out (near_inside j l more order less y)) in
              let none : (t : ℕ) → is_passed points a b s t v ≡ false = λ t. and_left (is_inside points a b v) (nat_lt (far points a v) (t * stride s)) out in
              omega (arith, ap one_if far_out, ap one_if (none j), ap one_if (none (l + 1)))
          | inl inside ↦ at_steps (inner inside) inside
        ]
      where
        at_steps : Inner → is_inside points a b v ≡ true → one_if (is_passed points a b s j v) + one_if (is_near j l) ≡ one_if (is_passed points a b s (l + 1) v)
        at_steps i inside =
            let before = ap one_if (passed_where j i inside) in
            let after = ap one_if (passed_where (l + 1) i inside) in
            elim (cases_lt i.steps j) as (λ _. one_if (is_passed points a b s j v) + one_if (is_near j l) ≡ one_if (is_passed points a b s (l + 1) v)) [
              | inl h ↦
                  let not_near : is_near j l ≡ false = false_from_ne_true (is_near j l) (λ y. let n = near_where j l more order less i y in omega (arith, n.0, h)) in
                  omega (arith, before, after, ap one_if not_near, ap one_if (lt-ltb i.steps j h), ap one_if (lt-ltb i.steps (l + 1) (omega (arith, h, order))))
              | inr h ↦ elim (cases_lt l i.steps) as (λ _. one_if (is_passed points a b s j v) + one_if (is_near j l) ≡ one_if (is_passed points a b s (l + 1) v)) [
                | inl k ↦
                    let not_near : is_near j l ≡ false = false_from_ne_true (is_near j l) (λ y. let n = near_where j l more order less i y in omega (arith, n.1, k)) in
                    omega (arith, before, after, ap one_if not_near, ap one_if (le-ltb i.steps j h), ap one_if (le-ltb i.steps (l + 1) (omega (arith, k))))
                | inr k ↦
                    omega (arith, before, after, ap one_if (near_there j l i h k), ap one_if (le-ltb i.steps j h), ap one_if (lt-ltb i.steps (l + 1) (omega (arith, k))))
              ]
            ]

    -- in the end all are
    pub passed_all : is_passed points a b s s.count v ≡ is_inside points a b v
    passed_all = elim (cases_Bool (is_inside points a b v)) as (λ _. is_passed points a b s s.count v ≡ is_inside points a b v) [
      | inr out ↦ and_left (is_inside points a b v) (nat_lt (far points a v) (s.count * stride s)) out ∙ sym out
      | inl inside ↦ let i = inner inside in passed_where s.count i inside ∙ lt-ltb i.steps s.count i.less ∙ sym inside
    ]

    -- at first none is
    pub passed_none : is_passed points a b s 1 v ≡ false
    passed_none = elim (cases_Bool (is_inside points a b v)) as (λ _. is_passed points a b s 1 v ≡ false) [
      | inr out ↦ and_left (is_inside points a b v) (nat_lt (far points a v) (1 * stride s)) out
      | inl inside ↦ let i = inner inside in passed_where 1 i inside ∙ le-ltb i.steps 1 i.more
    ]

  -- a coordinate's part of a scalar product, where the way from a is so many steps
  part_of : (g k : ℤ) (t d x c : ℤ) → d ≡ g *ℤ t → x -ℤ c ≡ k *ℤ t → d *ℤ x ≡ d *ℤ c +ℤ k *ℤ (g *ℤ (t *ℤ t))
  part_of g k t d x c hd hx =
      let sum : x ≡ c +ℤ (x -ℤ c) = omega (arith, ints) in
      let more : d *ℤ (x -ℤ c) ≡ k *ℤ (g *ℤ (t *ℤ t)) =
      ap (λ z. d *ℤ z) hx ∙ ap (λ z. z *ℤ (k *ℤ t)) hd ∙ mul-assoc g t (k *ℤ t) ∙ ap (λ z. g *ℤ z) (exchanged t k t) ∙ exchanged g k (t *ℤ t) in
      ap (λ z. d *ℤ z) sum ∙ mul-add d c (x -ℤ c) ∙ ap (λ z. d *ℤ c +ℤ z) more

  -- the scalar product of the edge and one step
  abbrev gain : ℤ
  gain =
      let g = pos s.count in
      let t : ℕ → ℤ = λ i. coordinate_of s.step i in
      (g *ℤ (t 0 *ℤ t 0) +ℤ g *ℤ (t 1 *ℤ t 1)) +ℤ g *ℤ (t 2 *ℤ t 2)

  gain_above : pos 0 <ℤ gain
  gain_above =
      let g : pos 0 <ℤ pos s.count = omega (arith, ints, some) in
      let t : ℕ → ℤ = λ i. coordinate_of s.step i in
      let weak : (i : ℕ) → pos 0 ≤ℤ (pos s.count *ℤ (t i *ℤ t i)) = λ i. nonneg_mul (pos s.count) (t i *ℤ t i) (omega (arith, ints, g)) (square_weak (t i)) in
      let strong : (i : ℕ) → t i ≢ pos 0 → pos 0 <ℤ (pos s.count *ℤ (t i *ℤ t i)) = λ i n. pos_mul (pos s.count) (t i *ℤ t i) g (square_some (t i) n) in
      let w0 = weak 0 in
      let w1 = weak 1 in
      let w2 = weak 2 in
      elim (some_of (t 0) (t 1) (t 2) leads.least) as (λ _. pos 0 <ℤ gain) [
        | inl n ↦ let h = strong 0 n in omega (arith, ints, h, w1, w2)
        | inr (inl n) ↦ let h = strong 1 n in omega (arith, ints, h, w0, w2)
        | inr (inr n) ↦ let h = strong 2 n in omega (arith, ints, h, w0, w1)
      ]

  -- along the edge a place that lies k steps behind a has this scalar product
  along : (v : ℕ) (k : ℤ) → Stands v k → scalar (way p q) (at v) ≡ scalar (way p q) p +ℤ k *ℤ gain
  along v k h =
      let g = pos s.count in
      let t : ℕ → ℤ = λ i. coordinate_of s.step i in
      let d : ℕ → ℤ = λ i. coordinate_of q i -ℤ coordinate_of p i in
      omega (
        arith,
        ints,
        part_of g k (t 0) (d 0) (coordinate_of (at v) 0) (coordinate_of p 0) leads.end_x h.x,
        part_of g k (t 1) (d 1) (coordinate_of (at v) 1) (coordinate_of p 1) leads.end_y h.y,
        part_of g k (t 2) (d 2) (coordinate_of (at v) 2) (coordinate_of p 2) leads.end_z h.z,
        mul-add k (g *ℤ (t 0 *ℤ t 0) +ℤ g *ℤ (t 1 *ℤ t 1)) (g *ℤ (t 2 *ℤ t 2)),
        mul-add k (g *ℤ (t 0 *ℤ t 0)) (g *ℤ (t 1 *ℤ t 1)),
      )

  -- so the nearer is the one with fewer steps
  pub nearer_by : (v w m n : ℕ) → Stands v (pos m) → Stands w (pos n) → is_nearer points a b v w ≡ nat_lt m n
  nearer_by v w m n h i =
      let x = scalar (way p q) (at v) in
      let y = scalar (way p q) (at w) in
      let ex = along v (pos m) h in
      let ey = along w (pos n) i in
      elim (cases_lt m n) as (λ _. int_lt x y ≡ nat_lt m n) [
        | inl l ↦
            let more = more_times gain (pos n) (pos m) gain_above (omega (arith, ints, l)) in
            less_test x y (omega (arith, ints, ex, ey, more)) ∙ sym (lt-ltb m n l)
        | inr l ↦
            let more = keeps_order gain (pos n) (pos m) (omega (arith, ints, gain_above)) (omega (arith, ints, l)) in
            not_less_test x y (omega (arith, ints, ex, ey, more)) ∙ sym (le-ltb m n l)
      ]
    where
      less_test : (x y : ℤ) → x <ℤ y → int_lt x y ≡ true
      less_test x y h = grind (arith, ints)

      not_less_test : (x y : ℤ) → y ≤ℤ x → int_lt x y ≡ false
      not_less_test x y h = grind (arith, ints)
