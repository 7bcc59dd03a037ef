-- Points of the grid on the line of a segment: each lies a whole number of steps behind the start.
use Rattle.std.specs.Prelude.{◌≡◌, ◌≢◌, ℕ, ◌+◌, ◌*◌, ◌<◌, ◌≤◌, ℤ, pos, neg_ℤ, ◌-ℤ◌, ◌*ℤ◌, ◌≤ℤ◌, List, Bool, true, ◌&&◌, unsigned_abs}
use Rattle.std.specs.Ordering.{int_eq}
use Rattle.std.proofs.Common.{arith, ap, ◌∙◌, inl, inr}
use Rattle.std.proofs.Math.IntN.{*ℤ_comm}
use Rattle.std.proofs.lemmas.Bool.{and_from, and_parts}
use Rattle.std.proofs.lemmas.Bool.Decides.{Decides-int_eq}
use Rattle.std.proofs.lemmas.Int.{ints, unsigned_abs-mul}
use Rattle.chain_laws.specs.Products.{mul-assoc}
use Rattle.plane_laws.specs.Areas.{Place, area_is, exchanged}
use Rattle.mesh_terms.specs.Points.{coordinate_of, cross_on, cross_product}
use Rattle.box_tree.specs.Touching.{overlap_on, touches}
use Rattle.sheet_terms.specs.Cuts.{are_in_line, is_from_to, is_in_box}
use Rattle.edge_cutting.specs.Boxes.{point_box}
use Rattle.edge_cutting.specs.Spans.{LeadsTo, box_between, span, stepped}
use Rattle.edge_cutting.specs.declared.steps.Steps.{Steps}
use Rattle.edge_cutting.proofs.Between.{IsFrom, between_overlap, between_test, overlap_between, stays, test_between, within}
use Rattle.edge_cutting.proofs.Multiples.{IsMultiple, IsTimes, cancel, multiple_of, some_of}

-- the numbers of a cross product that is none
record HasNone (p q v : List ℤ) : Type 0 where
  x : cross_on 1 2 p q v ≡ pos 0
  y : cross_on 2 0 p q v ≡ pos 0
  z : cross_on 0 1 p q v ≡ pos 0

none_from_test : (p q v : List ℤ) → are_in_line p q v ≡ true → HasNone p q v
none_from_test p q v h =
    let n = cross_product p q v in
    let t : ℕ → Bool = λ i. int_eq (coordinate_of n i) (pos 0) in
    let all = and_parts (t 0 && t 1) (t 2) h in
    let two = and_parts (t 0) (t 1) all.0 in
    let by : (z : ℤ) → int_eq z (pos 0) ≡ true → z ≡ pos 0 = λ z. (Decides-int_eq z (pos 0)).0 in
    record { x = by (coordinate_of n 0) two.0; y = by (coordinate_of n 1) two.1; z = by (coordinate_of n 2) all.1 }

test_from_none : (p q v : List ℤ) → HasNone p q v → are_in_line p q v ≡ true
test_from_none p q v h =
    let n = cross_product p q v in
    let t : ℕ → Bool = λ i. int_eq (coordinate_of n i) (pos 0) in
    let by : (z : ℤ) → z ≡ pos 0 → int_eq z (pos 0) ≡ true = λ z. (Decides-int_eq z (pos 0)).1 in
    and_from (t 0 && t 1) (t 2) (and_from (t 0) (t 1) (by (coordinate_of n 0) h.x) (by (coordinate_of n 1) h.y)) (by (coordinate_of n 2) h.z)

-- a line has two ways
cross_turned : (i j : ℕ) (p q v : List ℤ) → cross_on i j q p v ≡ neg_ℤ (cross_on i j p q v)
cross_turned i j p q v = by (coordinate_of p i) (coordinate_of p j) (coordinate_of q i) (coordinate_of q j) (coordinate_of v i) (coordinate_of v j)
  where
    by : (pi pj qi qj vi vj : ℤ) → (pi -ℤ qi) *ℤ (vj -ℤ qj) -ℤ (pj -ℤ qj) *ℤ (vi -ℤ qi) ≡ neg_ℤ ((qi -ℤ pi) *ℤ (vj -ℤ pj) -ℤ (qj -ℤ pj) *ℤ (vi -ℤ pi))
    by pi pj qi qj vi vj =
        let p : Place = record { x = pi; y = pj } in
        let q : Place = record { x = qi; y = qj } in
        let v : Place = record { x = vi; y = vj } in
        omega (arith, ints, area_is p q v, area_is q p v, *ℤ_comm (pj -ℤ qj) (vi -ℤ qi), *ℤ_comm (qj -ℤ pj) (vi -ℤ pi))

pub line_turned : (p q v : List ℤ) → are_in_line q p v ≡ are_in_line p q v
line_turned p q v =
    let zero_turned : (z : ℤ) → int_eq (neg_ℤ z) (pos 0) ≡ int_eq z (pos 0) = λ z. eq_turned z in
    let t : ℤ → Bool = λ z. int_eq z (pos 0) in
    let x = ap t (cross_turned 1 2 p q v) ∙ zero_turned (cross_on 1 2 p q v) in
    let y = ap t (cross_turned 2 0 p q v) ∙ zero_turned (cross_on 2 0 p q v) in
    let z = ap t (cross_turned 0 1 p q v) ∙ zero_turned (cross_on 0 1 p q v) in
    ap (λ b. b && t (cross_on 2 0 q p v) && t (cross_on 0 1 q p v)) x ∙ ap (λ b. t (cross_on 1 2 p q v) && b && t (cross_on 0 1 q p v)) y
    ∙ ap (λ b. t (cross_on 1 2 p q v) && t (cross_on 2 0 p q v) && b) z
  where
    eq_turned : (z : ℤ) → int_eq (neg_ℤ z) (pos 0) ≡ int_eq z (pos 0)
    eq_turned z = grind (arith, ints)

-- a difference of products that have a factor
with_factor : (g a b x y d e : ℤ) → g ≢ pos 0 → d ≡ g *ℤ a → e ≡ g *ℤ b → d *ℤ y -ℤ e *ℤ x ≡ pos 0 → a *ℤ y ≡ x *ℤ b
with_factor g a b x y d e some hd he none =
    let left : d *ℤ y ≡ g *ℤ (a *ℤ y) = ap (λ t. t *ℤ y) hd ∙ mul-assoc g a y in
    let right : e *ℤ x ≡ g *ℤ (b *ℤ x) = ap (λ t. t *ℤ x) he ∙ mul-assoc g b x in
    let same : g *ℤ (a *ℤ y) ≡ g *ℤ (b *ℤ x) = omega (arith, ints, none, left, right) in
    cancel g (a *ℤ y) (b *ℤ x) some same ∙ *ℤ_comm b x

-- multiples of one way have no cross product
no_cross : (g k a b x y d e : ℤ) → d ≡ g *ℤ a → e ≡ g *ℤ b → x ≡ k *ℤ a → y ≡ k *ℤ b → d *ℤ y -ℤ e *ℤ x ≡ pos 0
no_cross g k a b x y d e hd he hx hy =
    let left : d *ℤ y ≡ g *ℤ (k *ℤ (a *ℤ b)) =
    ap (λ t. t *ℤ y) hd ∙ ap (λ t. (g *ℤ a) *ℤ t) hy ∙ mul-assoc g a (k *ℤ b) ∙ ap (λ t. g *ℤ t) (exchanged a k b) in
    let right : e *ℤ x ≡ g *ℤ (k *ℤ (a *ℤ b)) =
    ap (λ t. t *ℤ x) he ∙ ap (λ t. (g *ℤ b) *ℤ t) hx ∙ mul-assoc g b (k *ℤ a) ∙ ap (λ t. g *ℤ t) (exchanged b k a ∙ ap (λ t. k *ℤ t) (*ℤ_comm b a)) in
    omega (arith, ints, left, right)

-- a number of steps is some
pub some_steps : (g : ℕ) → 0 < g → pos g ≢ pos 0
some_steps g h e = omega (arith, ints, e, h)

module _ (p q : List ℤ) (s : Steps) (some : 0 < s.count) (leads : LeadsTo p q s) (v : List ℤ) where
  abbrev step : ℕ → ℤ
  step i = coordinate_of s.step i

  -- the way to v
  abbrev way : ℕ → ℤ
  way i = coordinate_of v i -ℤ coordinate_of p i

  -- v lies k steps behind the start
  abbrev pub IsBehind : ℤ → Type 0
  IsBehind k = IsTimes k (step 0) (step 1) (step 2) (way 0) (way 1) (way 2)

  -- what is on the line lies whole steps behind the start
  pub behind : are_in_line p q v ≡ true → IsMultiple (step 0) (step 1) (step 2) (way 0) (way 1) (way 2)
  behind h =
      let none = none_from_test p q v h in
      let g = some_steps s.count some in
      multiple_of (step 0) (step 1) (step 2) (way 0) (way 1) (way 2) leads.least (record {
        ab = with_factor (pos s.count) (step 0) (step 1) (way 0) (way 1) _ _ g leads.end_x leads.end_y none.z;
        bc = with_factor (pos s.count) (step 1) (step 2) (way 1) (way 2) _ _ g leads.end_y leads.end_z none.x;
        ca = with_factor (pos s.count) (step 2) (step 0) (way 2) (way 0) _ _ g leads.end_z leads.end_x none.y;
      })

  -- and what lies so is on the line
  pub on_line : (k : ℤ) → IsBehind k → are_in_line p q v ≡ true
  on_line k h = test_from_none p q v (record {
    x = no_cross (pos s.count) k (step 1) (step 2) (way 1) (way 2) _ _ leads.end_y leads.end_z h.y h.z;
    y = no_cross (pos s.count) k (step 2) (step 0) (way 2) (way 0) _ _ leads.end_z leads.end_x h.z h.x;
    z = no_cross (pos s.count) k (step 0) (step 1) (way 0) (way 1) _ _ leads.end_x leads.end_y h.x h.y;
  })

  -- how far it lies
  pub span_behind : (k : ℕ) → IsBehind (pos k) → span p v ≡ k * (unsigned_abs (step 0) + unsigned_abs (step 1) + unsigned_abs (step 2))
  span_behind k h =
      let size : ℤ → ℕ = unsigned_abs in
      omega (
        arith,
        ap size h.x ∙ unsigned_abs-mul (pos k) (step 0),
        ap size h.y ∙ unsigned_abs-mul (pos k) (step 1),
        ap size h.z ∙ unsigned_abs-mul (pos k) (step 2),
      )

  -- the points so many steps behind the start
  reached : (j i : ℕ) → coordinate_of s.start i ≡ coordinate_of p i → stepped s j i -ℤ coordinate_of p i ≡ pos j *ℤ step i
  reached j i e = omega (arith, ints, e)

  -- in a box of two such points only what lies so far
  pub near_from : (j l : ℕ) (k : ℤ) → j ≤ l → IsBehind k → touches (point_box v) (box_between s j l) ≡ true → IsFrom (pos j) (pos l) k
  near_from j l k order h near =
      let a = point_box v in
      let b = box_between s j l in
      let outer = and_parts (overlap_on 0 a b && overlap_on 1 a b) (overlap_on 2 a b) near in
      let inner = and_parts (overlap_on 0 a b) (overlap_on 1 a b) outer.0 in
      elim (some_of (step 0) (step 1) (step 2) leads.least) as (λ _. IsFrom (pos j) (pos l) k) [
        | inl n ↦
            within (coordinate_of p 0) (step 0) (pos j) (pos l) k (stepped s j 0) (stepped s l 0) (coordinate_of v 0) n (omega (arith, ints, order))
            (reached j 0 leads.start_x) (reached l 0 leads.start_x) h.x (between_overlap (stepped s j 0) (stepped s l 0) (coordinate_of v 0) inner.0)
        | inr (inl n) ↦
            within (coordinate_of p 1) (step 1) (pos j) (pos l) k (stepped s j 1) (stepped s l 1) (coordinate_of v 1) n (omega (arith, ints, order))
            (reached j 1 leads.start_y) (reached l 1 leads.start_y) h.y (between_overlap (stepped s j 1) (stepped s l 1) (coordinate_of v 1) inner.1)
        | inr (inr n) ↦
            within (coordinate_of p 2) (step 2) (pos j) (pos l) k (stepped s j 2) (stepped s l 2) (coordinate_of v 2) n (omega (arith, ints, order))
            (reached j 2 leads.start_z) (reached l 2 leads.start_z) h.z (between_overlap (stepped s j 2) (stepped s l 2) (coordinate_of v 2) outer.1)
      ]

  pub from_near : (j l : ℕ) (k : ℤ) → IsBehind k → IsFrom (pos j) (pos l) k → touches (point_box v) (box_between s j l) ≡ true
  from_near j l k h from =
      let a = point_box v in
      let b = box_between s j l in
      and_from (overlap_on 0 a b && overlap_on 1 a b) (overlap_on 2 a b)
      (and_from (overlap_on 0 a b) (overlap_on 1 a b)
      (overlap_between (stepped s j 0) (stepped s l 0) (coordinate_of v 0)
      (stays (coordinate_of p 0) (step 0) (pos j) (pos l) k (stepped s j 0) (stepped s l 0) (coordinate_of v 0) (reached j 0 leads.start_x) (reached l 0 leads.start_x) h.x from))
      (overlap_between (stepped s j 1) (stepped s l 1) (coordinate_of v 1)
      (stays (coordinate_of p 1) (step 1) (pos j) (pos l) k (stepped s j 1) (stepped s l 1) (coordinate_of v 1) (reached j 1 leads.start_y) (reached l 1 leads.start_y) h.y from)))
      (overlap_between (stepped s j 2) (stepped s l 2) (coordinate_of v 2)
      (stays (coordinate_of p 2) (step 2) (pos j) (pos l) k (stepped s j 2) (stepped s l 2) (coordinate_of v 2) (reached j 2 leads.start_z) (reached l 2 leads.start_z) h.z from))

  -- no steps
  start_at : (i : ℕ) → coordinate_of p i -ℤ coordinate_of p i ≡ pos 0 *ℤ step i
  start_at i = omega (arith, ints)

  -- in the box of the ends
  pub boxed_from : (k : ℤ) → IsBehind k → is_in_box p q v ≡ true → IsFrom (pos 0) (pos s.count) k
  boxed_from k h inside =
      let outer = and_parts (is_from_to p q v 0 && is_from_to p q v 1) (is_from_to p q v 2) inside in
      let inner = and_parts (is_from_to p q v 0) (is_from_to p q v 1) outer.0 in
      let order : pos 0 ≤ℤ pos s.count = omega (arith, ints) in
      elim (some_of (step 0) (step 1) (step 2) leads.least) as (λ _. IsFrom (pos 0) (pos s.count) k) [
        | inl n ↦
            within (coordinate_of p 0) (step 0) (pos 0) (pos s.count) k (coordinate_of p 0) (coordinate_of q 0) (coordinate_of v 0) n order
            (start_at 0) leads.end_x h.x (between_test (coordinate_of p 0) (coordinate_of q 0) (coordinate_of v 0) inner.0)
        | inr (inl n) ↦
            within (coordinate_of p 1) (step 1) (pos 0) (pos s.count) k (coordinate_of p 1) (coordinate_of q 1) (coordinate_of v 1) n order
            (start_at 1) leads.end_y h.y (between_test (coordinate_of p 1) (coordinate_of q 1) (coordinate_of v 1) inner.1)
        | inr (inr n) ↦
            within (coordinate_of p 2) (step 2) (pos 0) (pos s.count) k (coordinate_of p 2) (coordinate_of q 2) (coordinate_of v 2) n order
            (start_at 2) leads.end_z h.z (between_test (coordinate_of p 2) (coordinate_of q 2) (coordinate_of v 2) outer.1)
      ]

  pub from_boxed : (k : ℤ) → IsBehind k → IsFrom (pos 0) (pos s.count) k → is_in_box p q v ≡ true
  from_boxed k h from =
      and_from (is_from_to p q v 0 && is_from_to p q v 1) (is_from_to p q v 2)
      (and_from (is_from_to p q v 0) (is_from_to p q v 1)
      (test_between (coordinate_of p 0) (coordinate_of q 0) (coordinate_of v 0)
      (stays (coordinate_of p 0) (step 0) (pos 0) (pos s.count) k (coordinate_of p 0) (coordinate_of q 0) (coordinate_of v 0) (start_at 0) leads.end_x h.x from))
      (test_between (coordinate_of p 1) (coordinate_of q 1) (coordinate_of v 1)
      (stays (coordinate_of p 1) (step 1) (pos 0) (pos s.count) k (coordinate_of p 1) (coordinate_of q 1) (coordinate_of v 1) (start_at 1) leads.end_y h.y from)))
      (test_between (coordinate_of p 2) (coordinate_of q 2) (coordinate_of v 2)
      (stays (coordinate_of p 2) (step 2) (pos 0) (pos s.count) k (coordinate_of p 2) (coordinate_of q 2) (coordinate_of v 2) (start_at 2) leads.end_z h.z from))
