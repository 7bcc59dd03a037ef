-- What a collapse of two vertices at one point keeps: the volume, and the triangles at three different points.
use Rattle.std.proofs.Common.{◌≡◌, ◌≢◌, ℕ, ℤ, pos, Bool, true, false, List, [], ◌∷◌, ◌⊎◌, inl, inr, map, get_or, refl, sym, ap, ◌∙◌, arith}
use Rattle.std.specs.Prelude.{◌==◌, ◌&&◌, ◌||◌, not, ◌*ℤ◌, cond, filter}
use Rattle.std.specs.List.{All}
use Rattle.std.proofs.lemmas.Int.{ints}
use Rattle.std.proofs.lemmas.Bool.{eqb-true, eq-eqb, cases_Bool, both_ways, and_from, and_parts, or_from}
use Rattle.std.proofs.lemmas.Bool.Decides.{Decides-int_eq}
use Rattle.std.proofs.Math.IntN.{*ℤ_comm}
use Rattle.std.specs.Ordering.{int_eq}
use Rattle.std.proofs.lemmas.List.Elements.{All-cons, All-head, All-nil, All-tail}
use Rattle.chain_terms.specs.Chains.{one_if}
use Rattle.chain_laws.specs.Counts.{count_by-cons}
use Rattle.chain_laws.specs.Products.{mul-assoc, mul-sub}
use Rattle.chain_laws.specs.Triples.{renamed_triple}
use Rattle.mesh_terms.specs.Meshes.{Triple, HasThree, has}
use Rattle.mesh_terms.specs.Points.{coordinate_of}
use Rattle.mesh_terms.specs.Volume.{determinant, triangle_determinant, volume6_of}
use Rattle.tidy_terms.specs.Collapse.{collapsed, merged, stays}
use Rattle.tidy_terms.specs.PointTriples.{count_at, is_at, lies_at, lies_round, same_point}
use Rattle.tidy_laws.proofs.Closed.{IsVertexOf, goes_both, merged_other, merged_second, vertex_of}
use Rattle.tidy_laws.proofs.Same.{merged_cases}

-- a triangle that stays, and one that goes, in front
front : (a b : ℕ) (t : Triple) (ts : List Triple) (k : Bool) → stays a b t ≡ k →
    collapsed a b (t ∷ ts) ≡ map (renamed_triple (merged a b)) (cond k (t ∷ filter (stays a b) ts) (filter (stays a b) ts))
front a b t ts k e = ap (λ c. map (renamed_triple (merged a b)) (cond c (t ∷ filter (stays a b) ts) (filter (stays a b) ts))) e

-- the three vertices of one that stays still differ
has_vertex : (t : Triple) (v : ℕ) → IsVertexOf t v → has t v ≡ true
has_vertex t v (inl e) = ap (λ x. (x || (t.1 == v)) || (t.2 == v)) (eq-eqb t.0 v e)
has_vertex t v (inr (inl e)) = by (t.0 == v) (t.1 == v) (eq-eqb t.1 v e) where
  by : (x y : Bool) → y ≡ true → ((x || y) || (t.2 == v)) ≡ true
  by true y k = refl
  by false true k = refl
  by false false k = absurd (both_ways false refl k)
has_vertex t v (inr (inr e)) = by ((t.0 == v) || (t.1 == v)) (t.2 == v) (eq-eqb t.2 v e) where
  by : (x y : Bool) → y ≡ true → (x || y) ≡ true
  by true y k = refl
  by false true k = refl
  by false false k = absurd (both_ways false refl k)

not_both : (a b : ℕ) (t : Triple) → stays a b t ≡ true → IsVertexOf t a → IsVertexOf t b → ⊥
not_both a b t s p q = by (has t a) (has t b) (has_vertex t a p) (has_vertex t b q) s where
  by : (x y : Bool) → x ≡ true → y ≡ true → not (x && y) ≡ true → ⊥
  by true true e f k = both_ways false refl k
  by true false e f k = both_ways false refl f
  by false y e f k = both_ways false refl e

pub three_stay : (a b : ℕ) (ts : List Triple) → All HasThree ts → All HasThree (collapsed a b ts)
three_stay a b [] three = All-nil HasThree
three_stay a b (t ∷ ts) three = elim (cases_Bool (stays a b t)) as (λ _. All HasThree (collapsed a b (t ∷ ts))) [
  | inl y ↦
      let here = All-head HasThree t ts three in
      let r = renamed_triple (merged a b) t in
      let rest = three_stay a b ts (All-tail HasThree t ts three) in
      rw (front a b t ts true y) (All-cons HasThree r (collapsed a b ts) (record {
        ab = λ e. elim (merged_cases a b t.0 t.1 e) as (λ _. ⊥)
            [ inl q ↦ here.ab q | inr (inl q) ↦ not_both a b t y (inl q.0) (inr (inl q.1)) | inr (inr q) ↦ not_both a b t y (inr (inl q.1)) (inl q.0) ];
        bc = λ e. elim (merged_cases a b t.1 t.2 e) as (λ _. ⊥)
            [ inl q ↦ here.bc q | inr (inl q) ↦ not_both a b t y (inr (inl q.0)) (inr (inr q.1)) | inr (inr q) ↦ not_both a b t y (inr (inr q.1)) (inr (inl q.0)) ];
        ca = λ e. elim (merged_cases a b t.2 t.0 e) as (λ _. ⊥)
            [ inl q ↦ here.ca q | inr (inl q) ↦ not_both a b t y (inr (inr q.0)) (inl q.1) | inr (inr q) ↦ not_both a b t y (inl q.1) (inr (inr q.0)) ];
      }) rest)
  | inr m ↦ rw (front a b t ts false m) (three_stay a b ts (All-tail HasThree t ts three))
]

-- two points with the coordinates of a third have the same
meet_there : (p q x : List ℤ) → same_point p x ≡ true → same_point q x ≡ true → same_point p q ≡ true
meet_there p q x f g =
    let f1 = and_parts (int_eq (coordinate_of p 0) (coordinate_of x 0) && int_eq (coordinate_of p 1) (coordinate_of x 1)) (int_eq (coordinate_of p 2) (coordinate_of x 2)) f in
    let f0 = and_parts (int_eq (coordinate_of p 0) (coordinate_of x 0)) (int_eq (coordinate_of p 1) (coordinate_of x 1)) f1.0 in
    let g1 = and_parts (int_eq (coordinate_of q 0) (coordinate_of x 0) && int_eq (coordinate_of q 1) (coordinate_of x 1)) (int_eq (coordinate_of q 2) (coordinate_of x 2)) g in
    let g0 = and_parts (int_eq (coordinate_of q 0) (coordinate_of x 0)) (int_eq (coordinate_of q 1) (coordinate_of x 1)) g1.0 in
    and_from (int_eq (coordinate_of p 0) (coordinate_of q 0) && int_eq (coordinate_of p 1) (coordinate_of q 1)) (int_eq (coordinate_of p 2) (coordinate_of q 2))
    (and_from (int_eq (coordinate_of p 0) (coordinate_of q 0)) (int_eq (coordinate_of p 1) (coordinate_of q 1)) (on 0 f0.0 g0.0) (on 1 f0.1 g0.1)) (on 2 f1.1 g1.1)
  where
    on : (i : ℕ) → int_eq (coordinate_of p i) (coordinate_of x i) ≡ true → int_eq (coordinate_of q i) (coordinate_of x i) ≡ true →
        int_eq (coordinate_of p i) (coordinate_of q i) ≡ true
    on i e k =
        (Decides-int_eq (coordinate_of p i) (coordinate_of q i)).1
        ((Decides-int_eq (coordinate_of p i) (coordinate_of x i)).0 e ∙ sym ((Decides-int_eq (coordinate_of q i) (coordinate_of x i)).0 k))

-- three factors in another order
ends_changed : (a b c : ℤ) → a *ℤ (b *ℤ c) ≡ c *ℤ (b *ℤ a)
ends_changed a b c = rw (*ℤ_comm b c, ← mul-assoc a c b, *ℤ_comm a c, mul-assoc c a b, *ℤ_comm a b) refl

first_changed : (a b c : ℤ) → a *ℤ (b *ℤ c) ≡ b *ℤ (a *ℤ c)
first_changed a b c = rw (← mul-assoc a b c, *ℤ_comm a b, mul-assoc b a c) refl

-- a determinant with two equal rows
pub det_first : (p q : List ℤ) → determinant p p q ≡ pos 0
det_first p q =
    let x = coordinate_of p 0 in let y = coordinate_of p 1 in let z = coordinate_of p 2 in
    let u = coordinate_of q 0 in let v = coordinate_of q 1 in let w = coordinate_of q 2 in
    omega (arith, ints, mul-sub x (y *ℤ w) (z *ℤ v), mul-sub y (z *ℤ u) (x *ℤ w), mul-sub z (x *ℤ v) (y *ℤ u), first_changed x y w, first_changed x z v, first_changed y z u)

pub det_outer : (p q : List ℤ) → determinant p q p ≡ pos 0
det_outer p q =
    let x = coordinate_of p 0 in let y = coordinate_of p 1 in let z = coordinate_of p 2 in
    let u = coordinate_of q 0 in let v = coordinate_of q 1 in let w = coordinate_of q 2 in
    omega (arith, ints, mul-sub x (v *ℤ z) (w *ℤ y), mul-sub y (w *ℤ x) (u *ℤ z), mul-sub z (u *ℤ y) (v *ℤ x), ends_changed x v z, ends_changed x w y, ends_changed y u z)

det_last : (p q : List ℤ) → determinant q p p ≡ pos 0
det_last p q =
    let x = coordinate_of p 0 in let y = coordinate_of p 1 in let z = coordinate_of p 2 in
    let u = coordinate_of q 0 in let v = coordinate_of q 1 in let w = coordinate_of q 2 in
    omega (
      arith,
      ints,
      mul-sub u (y *ℤ z) (z *ℤ y),
      mul-sub v (z *ℤ x) (x *ℤ z),
      mul-sub w (x *ℤ y) (y *ℤ x),
      ap (λ k. u *ℤ k) (turned y z),
      ap (λ k. v *ℤ k) (turned z x),
      ap (λ k. w *ℤ k) (turned x y),
    )
  where
    turned : (i j : ℤ) → i *ℤ j ≡ j *ℤ i
    turned i j = omega (arith, ints)

-- two corners of a triangle lie at one point
abbrev pub AtOne : List (List ℤ) → Triple → Type 0
AtOne points t = (get_or points t.0 [] ≡ get_or points t.1 []) ⊎ ((get_or points t.1 [] ≡ get_or points t.2 []) ⊎ (get_or points t.2 [] ≡ get_or points t.0 []))

-- its determinant is 0
pub flat : (points : List (List ℤ)) (t : Triple) → AtOne points t → triangle_determinant points t ≡ pos 0
flat points t (inl e) = ap (λ p. determinant p (get_or points t.1 []) (get_or points t.2 [])) e ∙ det_first (get_or points t.1 []) (get_or points t.2 [])
flat points t (inr (inl e)) = ap (λ p. determinant (get_or points t.0 []) p (get_or points t.2 [])) e ∙ det_last (get_or points t.2 []) (get_or points t.0 [])
flat points t (inr (inr e)) = ap (λ p. determinant (get_or points t.0 []) (get_or points t.1 []) p) e ∙ det_outer (get_or points t.0 []) (get_or points t.1 [])

-- and it lies at no three points of which no two are one
module _ (points : List (List ℤ)) (p q r : List ℤ) (pq : same_point p q ≡ false) (qr : same_point q r ≡ false) (rp : same_point r p ≡ false) where
  no_lies : (x y z : List ℤ) → (x ≡ y) ⊎ ((y ≡ z) ⊎ (z ≡ x)) → lies_at p q r x y z ≡ false
  no_lies x y z two = elim (cases_Bool (lies_at p q r x y z)) as (λ _. lies_at p q r x y z ≡ false) [
    | inl yes_lies ↦
        let outer = and_parts (same_point p x && same_point q y) (same_point r z) yes_lies in
        let inner = and_parts (same_point p x) (same_point q y) outer.0 in
        absurd (by two inner.0 inner.1 outer.1)
    | inr m ↦ m
  ]
    where
      by : (x ≡ y) ⊎ ((y ≡ z) ⊎ (z ≡ x)) → same_point p x ≡ true → same_point q y ≡ true → same_point r z ≡ true → ⊥
      by (inl e) f g k = both_ways (same_point p q) pq (meet_there p q y (ap (same_point p) (sym e) ∙ f) g)
      by (inr (inl e)) f g k = both_ways (same_point q r) qr (meet_there q r z (ap (same_point q) (sym e) ∙ g) k)
      by (inr (inr e)) f g k = both_ways (same_point r p) rp (meet_there r p x (ap (same_point r) (sym e) ∙ k) f)

  pub gone_elsewhere : (t : Triple) → AtOne points t → is_at points (p, q, r) t ≡ false
  gone_elsewhere t two =
      let x = get_or points t.0 [] in
      let y = get_or points t.1 [] in
      let z = get_or points t.2 [] in
      or_from (lies_at p q r x y z || lies_at p q r y z x) (lies_at p q r z x y)
      (or_from (lies_at p q r x y z) (lies_at p q r y z x) (no_lies x y z two) (no_lies y z x (on two))) (no_lies z x y (on' two))
    where
      on : AtOne points t → (get_or points t.1 [] ≡ get_or points t.2 []) ⊎ ((get_or points t.2 [] ≡ get_or points t.0 []) ⊎ (get_or points t.0 [] ≡ get_or points t.1 []))
      on (inl e) = inr (inr e)
      on (inr (inl e)) = inl e
      on (inr (inr e)) = inr (inl e)

      on' : AtOne points t → (get_or points t.2 [] ≡ get_or points t.0 []) ⊎ ((get_or points t.0 [] ≡ get_or points t.1 []) ⊎ (get_or points t.1 [] ≡ get_or points t.2 []))
      on' (inl e) = inr (inl e)
      on' (inr (inl e)) = inr (inr e)
      on' (inr (inr e)) = inl e

module _ (points : List (List ℤ)) (a b : ℕ) (apart : a ≢ b) (same : get_or points a [] ≡ get_or points b []) where
  -- the point of a vertex stays
  pub point_stays : (v : ℕ) → get_or points (merged a b v) [] ≡ get_or points v []
  point_stays v = elim (cases_Bool (v == b)) as (λ _. get_or points (merged a b v) [] ≡ get_or points v []) [
    | inl y ↦ let e = eqb-true v b y in ap (λ i. get_or points i []) (merged_second a b v e) ∙ same ∙ sym (ap (λ i. get_or points i []) e)
    | inr m ↦ ap (λ i. get_or points i []) (merged_other a b v (λ q. let z = eq-eqb v b q in absurd (cc)))
  ]

  -- two corners of one that goes lie at one point
  two_at_one : (t : Triple) → IsVertexOf t a → IsVertexOf t b → AtOne points t
  two_at_one t p q = by p q where
    at : (v w : ℕ) → v ≡ a → w ≡ b → get_or points v [] ≡ get_or points w []
    at v w e f = ap (λ i. get_or points i []) e ∙ same ∙ sym (ap (λ i. get_or points i []) f)

    by : IsVertexOf t a → IsVertexOf t b → AtOne points t
    by (inl x) (inl y) = absurd (apart (sym x ∙ y))
    by (inl x) (inr (inl y)) = inl (at t.0 t.1 x y)
    by (inl x) (inr (inr y)) = inr (inr (sym (at t.0 t.2 x y)))
    by (inr (inl x)) (inl y) = inl (sym (at t.1 t.0 x y))
    by (inr (inl x)) (inr (inl y)) = absurd (apart (sym x ∙ y))
    by (inr (inl x)) (inr (inr y)) = inr (inl (at t.1 t.2 x y))
    by (inr (inr x)) (inl y) = inr (inr (at t.2 t.0 x y))
    by (inr (inr x)) (inr (inl y)) = inr (inl (sym (at t.2 t.1 x y)))
    by (inr (inr x)) (inr (inr y)) = absurd (apart (sym x ∙ y))

  gone_at_one : (t : Triple) → stays a b t ≡ false → AtOne points t
  gone_at_one t m = let g = goes_both a b t m in two_at_one t (vertex_of t a g.first) (vertex_of t b g.second)

  det_stays : (t : Triple) → triangle_determinant points (renamed_triple (merged a b) t) ≡ triangle_determinant points t
  det_stays t =
      ap (λ p. determinant p (get_or points (merged a b t.1) []) (get_or points (merged a b t.2) [])) (point_stays t.0)
      ∙ ap (λ p. determinant (get_or points t.0 []) p (get_or points (merged a b t.2) [])) (point_stays t.1)
      ∙ ap (λ p. determinant (get_or points t.0 []) (get_or points t.1 []) p) (point_stays t.2)

  pub volume_stays : (ts : List Triple) → volume6_of points (collapsed a b ts) ≡ volume6_of points ts
  volume_stays [] = refl
  volume_stays (t ∷ ts) = elim (cases_Bool (stays a b t)) as (λ _. volume6_of points (collapsed a b (t ∷ ts)) ≡ volume6_of points (t ∷ ts)) [
    | inl y ↦ ap (volume6_of points) (front a b t ts true y) ∙ omega (arith, ints, volume_stays ts, det_stays t)
    | inr m ↦ ap (volume6_of points) (front a b t ts false m) ∙ omega (arith, ints, volume_stays ts, flat points t (gone_at_one t m))
  ]

  -- three points of which no two are one
  module _ (p q r : List ℤ) (pq : same_point p q ≡ false) (qr : same_point q r ≡ false) (rp : same_point r p ≡ false) where
    at_stays : (t : Triple) → is_at points (p, q, r) (renamed_triple (merged a b) t) ≡ is_at points (p, q, r) t
    at_stays t =
        ap (λ x. lies_round (p, q, r) x (get_or points (merged a b t.1) []) (get_or points (merged a b t.2) [])) (point_stays t.0)
        ∙ ap (λ y. lies_round (p, q, r) (get_or points t.0 []) y (get_or points (merged a b t.2) [])) (point_stays t.1)
        ∙ ap (λ z. lies_round (p, q, r) (get_or points t.0 []) (get_or points t.1 []) z) (point_stays t.2)

    pub count_stays : (ts : List Triple) → count_at points (p, q, r) (collapsed a b ts) ≡ count_at points (p, q, r) ts
    count_stays [] = refl
    count_stays (t ∷ ts) = elim (cases_Bool (stays a b t)) as (λ _. count_at points (p, q, r) (collapsed a b (t ∷ ts)) ≡ count_at points (p, q, r) (t ∷ ts)) [
      | inl y ↦
          let u = renamed_triple (merged a b) t in
          ap (count_at points (p, q, r)) (front a b t ts true y)
          ∙ omega (arith, count_stays ts, count_by-cons (is_at points (p, q, r)) u (collapsed a b ts), count_by-cons (is_at points (p, q, r)) t ts, ap one_if (at_stays t))
      | inr m ↦
          ap (count_at points (p, q, r)) (front a b t ts false m)
          ∙ omega (arith, count_stays ts, count_by-cons (is_at points (p, q, r)) t ts, ap one_if (gone_elsewhere points p q r pq qr rp t (gone_at_one t m)))
    ]
