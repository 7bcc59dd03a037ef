-- Points that are welded: equal lists of three coordinates are one point.
use Rattle.std.specs.Prelude.{◌≡◌, ℕ, ◌+◌, ◌<◌, ◌≤◌, ℤ, List, [], ◌∷◌, ◌++◌, true, false, Bool, cond, not, ◌&&◌, filter, get_or, length, map, take}
use Rattle.std.specs.Cmp.Lexicographic.{pointwise}
use Rattle.std.specs.List.{All, list_any, position_or_len}
use Rattle.std.specs.Ordering.{int_eq}
use Rattle.std.proofs.Common.{arith, refl, sym, ap, ◌∙◌, inl, inr}
use Rattle.std.proofs.lemmas.Bool.{both_ways, cases_order}
use Rattle.std.proofs.lemmas.Bool.Decides.{Decides-int_eq, same_from_decides}
use Rattle.std.proofs.lemmas.List.{get_or-map, map-append, take_more}
use Rattle.std.proofs.lemmas.List.Elements.{All-head, All-tail, filter-append}
use Rattle.std.proofs.lemmas.List.Sums.{prefix_len-le-length}
use Rattle.std.proofs.lemmas.Slice.Eq.{slice_eq-Decides}
use Rattle.chain_terms.specs.Sums.{upto}
use Rattle.chain_laws.proofs.Places.{upto_more}
use Rattle.indexmap.specs.IndexSet.{insert_key}
use Rattle.face_plane.specs.Planes.{point_at}
use Rattle.mesh_terms.specs.Meshes.{Triple, triple_of, triples_of}
use Rattle.mesh_terms.specs.Points.{IsPoint, coordinate_of}
use Rattle.sheet_terms.specs.Places.{firsts, has_three, place_at, place_points}
use Rattle.tidy_terms.specs.PointTriples.{same_point}
use Rattle.edge_cutting.specs.Inside.{AreApart}
use Rattle.edge_cutting.specs.Overs.{over_at, over_of}
use Rattle.edge_cutting.proofs.Numbered.{IsLike, firsts_agree, firsts_all, firsts_apart, firsts_few, firsts_push, numbers, numbers_push, stands_agree}

-- equality of lists of whole numbers
pub likeness : IsLike (pointwise int_eq)
likeness = record {
  self = λ x. (decides x x).1 refl;
  back = λ x y h. (decides y x).1 (sym ((decides x y).0 h));
  on = λ x y z h k. (decides x z).1 ((decides x y).0 h ∙ (decides y z).0 k);
}
  where
    decides : (x y : List ℤ) → (pointwise int_eq x y ≡ true → x ≡ y) × (x ≡ y → pointwise int_eq x y ≡ true)
    decides x y = slice_eq-Decides Decides-int_eq x y (pointwise int_eq x y) refl

-- at points it is the test of their coordinates
pub same_test : (p q : List ℤ) → IsPoint p → IsPoint q → pointwise int_eq p q ≡ same_point p q
same_test p q hp hq = by p q hp.three hq.three
  where
    joined : (s t u : Bool) → (s && (t && (u && true))) ≡ (s && t && u)
    joined true true true = refl
    joined true true false = refl
    joined true false u = refl
    joined false t u = refl

    by : (p q : List ℤ) → length p ≡ 3 → length q ≡ 3 → pointwise int_eq p q ≡ same_point p q
    by (a ∷ b ∷ c ∷ []) (d ∷ e ∷ f ∷ []) h k = joined (int_eq a d) (int_eq b e) (int_eq c f)
    by [] q h k = absurd (omega (arith, h))
    by (a ∷ []) q h k = absurd (omega (arith, h))
    by (a ∷ b ∷ []) q h k = absurd (omega (arith, h))
    by (a ∷ b ∷ c ∷ d ∷ p) q h k = absurd (omega (arith, h))
    by (a ∷ b ∷ c ∷ []) [] h k = absurd (omega (arith, k))
    by (a ∷ b ∷ c ∷ []) (d ∷ []) h k = absurd (omega (arith, k))
    by (a ∷ b ∷ c ∷ []) (d ∷ e ∷ []) h k = absurd (omega (arith, k))
    by (a ∷ b ∷ c ∷ []) (d ∷ e ∷ f ∷ g ∷ q) h k = absurd (omega (arith, k))

-- so the places are those of the definition
pub points_are : (points : List (List ℤ)) → All IsPoint points → firsts (pointwise int_eq) points ≡ place_points points
points_are points all = firsts_agree IsPoint (pointwise int_eq) same_point same_test points all

pub numbers_are : (points : List (List ℤ)) → All IsPoint points → numbers (pointwise int_eq) likeness points ≡ map (place_at (place_points points)) points
numbers_are points all =
    ap (λ ks. map (λ x. position_or_len (pointwise int_eq x) ks) points) (points_are points all)
    ∙ each points all (firsts_all IsPoint same_point [] points all)
  where
    each : (xs : List (List ℤ)) → All IsPoint xs → All IsPoint (place_points points) →
        map (λ x. position_or_len (pointwise int_eq x) (place_points points)) xs ≡ map (place_at (place_points points)) xs
    each [] a b = refl
    each (x ∷ xs) a b =
        ap (λ n. n ∷ map (λ y. position_or_len (pointwise int_eq y) (place_points points)) xs)
        (stands_agree IsPoint (pointwise int_eq) same_point same_test x (place_points points) (All-head IsPoint x xs a) b)
        ∙ ap (λ l. place_at (place_points points) x ∷ l) (each xs (All-tail IsPoint x xs a) b)

-- no two places lie at one point
same_turned : (p q : List ℤ) → same_point p q ≡ same_point q p
same_turned p q =
    let t : ℕ → Bool = λ i. int_eq (coordinate_of p i) (coordinate_of q i) in
    let u : ℕ → Bool = λ i. int_eq (coordinate_of q i) (coordinate_of p i) in
    let e : (i : ℕ) → t i ≡ u i = λ i. turned (coordinate_of p i) (coordinate_of q i) in
    ap (λ b. b && t 1 && t 2) (e 0) ∙ ap (λ b. u 0 && b && t 2) (e 1) ∙ ap (λ b. u 0 && u 1 && b) (e 2)
  where
    turned : (x y : ℤ) → int_eq x y ≡ int_eq y x
    turned x y = same_from_decides (int_eq x y) (int_eq y x) (Decides-int_eq x y) ((λ h. sym ((Decides-int_eq y x).0 h)), (λ h. (Decides-int_eq y x).1 (sym h)))

pub places_apart : (points : List (List ℤ)) → AreApart (place_points points)
places_apart points = record {
  apart = λ v w lv lw h. elim (cases_order v w) as (λ _. v ≡ w) [
    | inl e ↦ e
    | inr (inl l) ↦ absurd (both_ways (same_point (point_at (place_points points) w) (point_at (place_points points) v))
        (firsts_apart same_point points v w [] l lw) (same_turned (point_at (place_points points) w) (point_at (place_points points) v) ∙ h))
    | inr (inr l) ↦ absurd (both_ways (same_point (point_at (place_points points) v) (point_at (place_points points) w)) (firsts_apart same_point points w v [] l lv) h)
  ];
}

-- one more point, as the set takes it
pub keys_more : (points keys new : List (List ℤ)) (i : ℕ) (p : List ℤ) → i < length points → p ≡ get_or points i p → keys ≡ firsts (pointwise int_eq) (take i points) →
    new ≡ insert_key (pointwise int_eq) keys p → new ≡ firsts (pointwise int_eq) (take (i + 1) points)
keys_more points keys new i p low is e added =
    added ∙ ap (λ ks. insert_key (pointwise int_eq) ks p) e ∙ sym (firsts_push (pointwise int_eq) likeness (take i points) p)
    ∙ ap (firsts (pointwise int_eq)) (ap (λ x. take i points ++ x ∷ []) is ∙ sym (take_more points i p low))

pub of_more : (points keys : List (List ℤ)) (of : List ℕ) (i n : ℕ) (p : List ℤ) → i < length points → p ≡ get_or points i p → keys ≡ firsts (pointwise int_eq) (take i points) →
    of ≡ numbers (pointwise int_eq) likeness (take i points) → n ≡ position_or_len (pointwise int_eq p) keys →
    of ++ n ∷ [] ≡ numbers (pointwise int_eq) likeness (take (i + 1) points)
of_more points keys of i n p low is e h at =
    ap (λ l. l ++ n ∷ []) h ∙ ap (λ m. numbers (pointwise int_eq) likeness (take i points) ++ m ∷ []) (at ∙ ap (position_or_len (pointwise int_eq p)) e)
    ∙ sym (numbers_push (pointwise int_eq) likeness (take i points) p)
    ∙ ap (numbers (pointwise int_eq) likeness) (ap (λ x. take i points ++ x ∷ []) is ∙ sym (take_more points i p low))

-- the points beside it
pub firsts_more : (points keys old new : List (List ℤ)) (i : ℕ) (p : List ℤ) (is_new : Bool) → i < length points → p ≡ get_or points i p →
    keys ≡ firsts (pointwise int_eq) (take i points) → old ≡ firsts (pointwise int_eq) (take i points) → is_new ≡ not (list_any (pointwise int_eq p) keys) →
    new ≡ cond is_new (old ++ p ∷ []) old → new ≡ firsts (pointwise int_eq) (take (i + 1) points)
firsts_more points keys old new i p is_new low is ek eo en added =
    let same : old ≡ keys = eo ∙ sym ek in
    keys_more points keys new i p low is ek
    (added ∙ ap (λ b. cond b (old ++ p ∷ []) old) en ∙ ap (λ l. cond (not (list_any (pointwise int_eq p) keys)) (l ++ p ∷ []) l) same ∙ by (list_any (pointwise int_eq p) keys))
  where
    by : (b : Bool) → cond (not b) (keys ++ p ∷ []) keys ≡ cond b keys (keys ++ p ∷ [])
    by true = refl
    by false = refl

-- a number that the set gives is small
pub number_few : (points keys : List (List ℤ)) (i n : ℕ) (p : List ℤ) → keys ≡ firsts (pointwise int_eq) (take i points) → n ≡ position_or_len (pointwise int_eq p) keys →
    n ≤ length (take i points)
number_few points keys i n p e at =
    omega (arith, at, prefix_len-le-length (λ x. not (pointwise int_eq p x)) keys, ap length e, firsts_few (pointwise int_eq) [] (take i points))

-- one more triangle over places
pub sources_more : (of : List ℕ) (ts : List (List ℕ)) (i : ℕ) (t : Triple) (sources : List ℕ) → over_at of (triples_of ts) i ≡ t →
    sources ≡ filter (λ u. has_three (over_at of (triples_of ts) u)) (upto i) →
    sources ++ cond (has_three t) (i ∷ []) [] ≡ filter (λ u. has_three (over_at of (triples_of ts) u)) (upto (i + 1))
sources_more of ts i t sources is e =
    let q : ℕ → Bool = λ u. has_three (over_at of (triples_of ts) u) in
    ap (λ l. l ++ cond (has_three t) (i ∷ []) []) e ∙ ap (λ u. filter q (upto i) ++ cond (has_three u) (i ∷ []) []) (sym is)
    ∙ sym (ap (filter q) (upto_more i) ∙ filter-append q (upto i) (i ∷ []))

pub triples_more : (of : List ℕ) (ts : List (List ℕ)) (i : ℕ) (t : Triple) (sources : List ℕ) (faces : List Triple) → over_at of (triples_of ts) i ≡ t →
    faces ≡ map (over_at of (triples_of ts)) sources → faces ++ cond (has_three t) (t ∷ []) [] ≡ map (over_at of (triples_of ts)) (sources ++ cond (has_three t) (i ∷ []) [])
triples_more of ts i t sources faces is e =
    ap (λ l. l ++ cond (has_three t) (t ∷ []) []) e
    ∙ ap (λ l. map (over_at of (triples_of ts)) sources ++ l) (by (has_three t)) ∙ sym (map-append (over_at of (triples_of ts)) sources (cond (has_three t) (i ∷ []) []))
  where
    by : (b : Bool) → cond b (t ∷ []) [] ≡ map (over_at of (triples_of ts)) (cond b (i ∷ []) [])
    by true = ap (λ u. u ∷ []) (sym is)
    by false = refl

-- the triangle that is read
pub over_read : (of : List ℕ) (ts : List (List ℕ)) (i : ℕ) (t : List ℕ) → i < length ts → t ≡ get_or ts i t → over_at of (triples_of ts) i ≡ over_of of (triple_of t)
over_read of ts i t low is = ap (over_of of) (get_or-map triple_of ts i t (0, 0, 0) low ∙ ap triple_of (sym is))
