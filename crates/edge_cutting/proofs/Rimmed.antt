-- Cuts of an edge from its other end, and rims.
use Rattle.std.specs.Prelude.{◌≡◌, ◌≢◌, ◌⊎◌, ℕ, zero, suc, ◌+◌, ◌-◌, ◌<◌, ℤ, neg_ℤ, ◌-ℤ◌, ◌*ℤ◌, List, [], ◌∷◌, ◌++◌, true, false, Bool, cond, not, ◌&&◌, ◌==◌, if◌then◌else◌, int_le, int_lt, count_by, filter, get_or, length, reverse}
use Rattle.std.specs.Int.{int_max, int_min}
use Rattle.std.specs.List.{All, AllPairs, Contains}
use Rattle.std.specs.List.Sorted.{IsPermutation, IsSortedBy}
use Rattle.std.proofs.Common.{arith, refl, sym, ap, subst, ◌∙◌, inl, inr}
use Rattle.std.proofs.lemmas.Bool.{and_parts, cases_Bool, cases_order, eqb-false, eqb-true, false_from_ne_true, le-ltb, lt-ltb, ltb-false, not-true}
use Rattle.std.proofs.lemmas.Int.{clamps, ints}
use Rattle.std.proofs.lemmas.List.{get_or-reverse, get_or_default, length-reverse}
use Rattle.std.proofs.lemmas.List.Elements.{All-contains, Contains-append_left, Contains-append_right, Contains-get_or}
use Rattle.std.proofs.lemmas.List.MinMax.{IsStrictWeakOrder-by_number}
use Rattle.std.proofs.lemmas.List.Sorted.{Contains-permutation, IsPermutation-reverse, IsPermutation-sym, IsPermutation-trans, IsStrictWeakOrder-flip, sum_by-IsPermutation}
use Rattle.chain_terms.specs.Chains.{IsClosed, all_edges, dir, edges, is_edge, one_if}
use Rattle.chain_terms.specs.Sums.{upto}
use Rattle.chain_laws.specs.Chains.{is_self}
use Rattle.chain_laws.specs.Products.{neg-mul}
use Rattle.chain_laws.specs.Sorting.{sorted_by}
use Rattle.chain_laws.proofs.Ascending.{filter-ascends, filter-upto_same}
use Rattle.chain_laws.proofs.Sorting.{sorted_by-permutation, sorted_by-sorted, sorted_same, tie-parts}
use Rattle.face_plane.specs.Planes.{point_at}
use Rattle.mesh_terms.specs.Meshes.{IsBelow, Triple}
use Rattle.mesh_terms.specs.Points.{coordinate_of}
use Rattle.sheet_terms.specs.Cuts.{are_in_line, cuts, is_from_to, is_in_box, is_inside, is_nearer, scalar, way}
use Rattle.sheet_terms.specs.Places.{has_three, ordered}
use Rattle.tidy_terms.specs.PointTriples.{same_point}
use Rattle.edge_cutting.specs.Cut.{HasRims, places_between, places_from}
use Rattle.edge_cutting.specs.Edges.{AreLong, HasNone}
use Rattle.edge_cutting.specs.Inside.{AreApart}
use Rattle.edge_cutting.specs.Pieces.{AreGathered, gathered}
use Rattle.edge_cutting.specs.declared.pieces.Pieces.{Pieces}
use Rattle.edge_cutting.proofs.Counting.{ordered_same}
use Rattle.edge_cutting.proofs.Gathering.{IsPlace, agree, all_inside, all_upto, cuts_sorted, insides, nearer, same_far}
use Rattle.edge_cutting.proofs.LongEdges.{steps_between}
use Rattle.edge_cutting.proofs.OnLine.{line_turned}
use Rattle.edge_cutting.proofs.Pieced.{between_is}

-- a sorted list from its end
pub reversed_sorted : {X : Type 0} (lt : X → X → Bool) (xs : List X) → IsSortedBy lt xs → IsSortedBy (λ x y. lt y x) (reverse xs)
reversed_sorted lt xs up k d low high =
    let n = length xs in
    let long : length (reverse xs) ≡ n = length-reverse xs in
    let this = get_or-reverse xs k d (omega (arith, high, long)) in
    let next = get_or-reverse xs (k + 1) d (omega (arith, high, long)) in
    let back : n - 1 - k ≡ n - 1 - (k + 1) + 1 = omega (arith, high, long) in
    ap (λ x. lt x (get_or (reverse xs) (k + 1) d)) (this ∙ ap (λ j. get_or xs j d) back) ∙ ap (λ x. lt (get_or xs (n - 1 - (k + 1) + 1) d) x) next
    ∙ up (n - 1 - (k + 1)) d (omega arith) (omega (arith, high, long))

-- the way back has the opposite scalar products
scalar_turned : (p q r : List ℤ) → scalar (way q p) r ≡ neg_ℤ (scalar (way p q) r)
scalar_turned p q r =
    let back : (i : ℕ) → (coordinate_of p i -ℤ coordinate_of q i) *ℤ coordinate_of r i ≡ neg_ℤ ((coordinate_of q i -ℤ coordinate_of p i) *ℤ coordinate_of r i) = λ i.
    let e : coordinate_of p i -ℤ coordinate_of q i ≡ neg_ℤ (coordinate_of q i -ℤ coordinate_of p i) = omega (arith, ints) in
    ap (λ t. t *ℤ coordinate_of r i) e ∙ neg-mul (coordinate_of q i -ℤ coordinate_of p i) (coordinate_of r i) in
    omega (arith, ints, back 0, back 1, back 2)

-- so the nearer from the one end is the farther from the other
nearer_turned : (points : List (List ℤ)) (a b v w : ℕ) → is_nearer points b a v w ≡ is_nearer points a b w v
nearer_turned points a b v w =
    let p = point_at points a in
    let q = point_at points b in
    ap (λ x. int_lt x (scalar (way q p) (point_at points w))) (scalar_turned p q (point_at points v))
    ∙ ap (λ y. int_lt (neg_ℤ (scalar (way p q) (point_at points v))) y) (scalar_turned p q (point_at points w))
    ∙ less_turned (scalar (way p q) (point_at points v)) (scalar (way p q) (point_at points w))
  where
    less_turned : (x y : ℤ) → int_lt (neg_ℤ x) (neg_ℤ y) ≡ int_lt y x
    less_turned x y = grind (arith, ints)

-- the box of two ends is that of the ends in the other order
from_to_turned : (p q x : List ℤ) (i : ℕ) → is_from_to q p x i ≡ is_from_to p q x i
from_to_turned p q x i =
    let a = coordinate_of p i in
    let b = coordinate_of q i in
    let low : int_min b a ≡ int_min a b = omega (arith, ints, clamps) in
    let high : int_max b a ≡ int_max a b = omega (arith, ints, clamps) in
    ap (λ t. int_le t (coordinate_of x i) && int_le (coordinate_of x i) (int_max b a)) low ∙ ap (λ t. int_le (int_min a b) (coordinate_of x i) && int_le (coordinate_of x i) t) high

inside_turned : (points : List (List ℤ)) (a b v : ℕ) → is_inside points b a v ≡ is_inside points a b v
inside_turned points a b v =
    let p = point_at points a in
    let q = point_at points b in
    let x = point_at points v in
    let box : is_in_box q p x ≡ is_in_box p q x =
    ap (λ t. t && is_from_to q p x 1 && is_from_to q p x 2) (from_to_turned p q x 0) ∙ ap (λ t. is_from_to p q x 0 && t && is_from_to q p x 2) (from_to_turned p q x 1)
    ∙ ap (λ t. is_from_to p q x 0 && is_from_to p q x 1 && t) (from_to_turned p q x 2) in
    ap (λ t. not (v == b) && not (v == a) && t && are_in_line q p x) box ∙ ap (λ t. not (v == b) && not (v == a) && is_in_box p q x && t) (line_turned p q x)
    ∙ exchanged (not (v == b)) (not (v == a)) (is_in_box p q x) (are_in_line p q x)
  where
    exchanged : (s t u w : Bool) → (s && t && u && w) ≡ (t && s && u && w)
    exchanged true true u w = refl
    exchanged true false u w = refl
    exchanged false true u w = refl
    exchanged false false u w = refl

-- the places inside an edge from its other end
pub cuts_turned : (points : List (List ℤ)) (a b : ℕ) → AreApart points → a < length points → b < length points → a ≢ b → cuts points b a ≡ reverse (cuts points a b)
cuts_turned points a b apart la lb differ =
    let n = length points in
    let h = steps_between (point_at points a) (point_at points b)
    (false_from_ne_true (same_point (point_at points a) (point_at points b)) (λ y. differ (apart.apart a b la lb y))) in
    let s = h.steps in
    let near = nearer points a b s h.some h.leads apart la lb in
    let far : ℕ → ℕ → Bool = λ v w. near w v in
    let all = insides points a b s h.some h.leads apart la lb in
    let sorted = sorted_by near all in
    let order = IsStrictWeakOrder-flip near (IsStrictWeakOrder-by_number _) in
    let same : filter (is_inside points b a) (upto n) ≡ all = filter-upto_same (is_inside points b a) (is_inside points a b) n (λ v low. inside_turned points a b v) in
    let places = all_inside points a b s h.some h.leads apart la lb in
    let agrees : AllPairs (λ v w. is_nearer points b a v w ≡ not (far w v)) all = λ i j d l low.
    let v = get_or all i d in
    let w = get_or all j d in
    nearer_turned points a b v w
    ∙ agree points a b s h.some h.leads apart la lb w v (places j d low) (places i d (omega (arith, l, low))) (λ e. differ_at (is_inside points a b) n i j d l low (sym e)) in
    let counts : (p : ℕ → Bool) → count_by p (sorted_by far all) ≡ count_by p (reverse sorted) = λ p.
    let c : ℕ → ℕ = λ x. cond (p x) 1 0 in
    sum_by-IsPermutation c all (sorted_by far all) (sorted_by-permutation far all) ∙ sym (sum_by-IsPermutation c all sorted (sorted_by-permutation near all))
    ∙ sym (sum_by-IsPermutation c sorted (reverse sorted) (IsPermutation-reverse sorted)) in
    let back : (xs : List ℕ) (x : ℕ) → IsPermutation all xs → Contains xs x → IsPlace points a b s h.some h.leads apart la lb x = λ xs x moved there.
    All-contains (IsPlace points a b s h.some h.leads apart la lb) all x places (Contains-permutation xs all x (IsPermutation-sym all xs moved) there) in
    let moved : IsPermutation all (reverse sorted) =
    IsPermutation-trans all sorted (reverse sorted) (sorted_by-permutation near all) (IsPermutation-reverse sorted) in
    ap (ordered (is_nearer points b a)) same ∙ ordered_same (is_nearer points b a) far all agrees
    ∙ sorted_same far order (sorted_by far all) (reverse sorted) (sorted_by-sorted far order all)
    (reversed_sorted near sorted (sorted_by-sorted near (IsStrictWeakOrder-by_number _) all)) counts
    (λ x y hx hy t.
    let level = tie-parts far x y t in
    same_far points a b s h.some h.leads apart la lb x y (back (sorted_by far all) x (sorted_by-permutation far all) hx) (back (reverse sorted) y moved hy)
    (omega (arith, ltb-false _ _ level.0, ltb-false _ _ level.1)))
    ∙ sym (ap reverse (cuts_sorted points a b s h.some h.leads apart la lb))
  where
    differ_at : (p : ℕ → Bool) (n i j d : ℕ) → i < j → j < length (filter p (upto n)) → get_or (filter p (upto n)) i d ≡ get_or (filter p (upto n)) j d → ⊥
    differ_at p n i j d l low e =
        let up = filter-ascends p 0 n i j l low in
        omega (arith, up, e, get_or_default (filter p (upto n)) i d 0 (omega (arith, l, low)), get_or_default (filter p (upto n)) j d 0 low)

-- edges that occur are members
dir_some : (es : List (ℕ × ℕ)) (a b : ℕ) → Contains es (a, b) → 0 < dir es a b
dir_some [] a b h = absurd (omega (arith, h.1))
dir_some (e ∷ es) a b (zero, l, is) = omega (arith, ap (λ (d : ℕ × ℕ). one_if (is_edge d a b)) is ∙ ap one_if (is_self a b))
dir_some (e ∷ es) a b (suc k, l, is) = omega (arith, dir_some es a b (k, omega (arith, l), is))

some_dir : (es : List (ℕ × ℕ)) (a b : ℕ) → 0 < dir es a b → Contains es (a, b)
some_dir [] a b h = absurd (omega (arith, h))
some_dir (e ∷ es) a b h = elim (cases_Bool (is_edge e a b)) as (λ _. Contains (e ∷ es) (a, b)) [
  | inl y ↦ let both = and_parts (e.0 == a) (e.1 == b) y in (0, omega arith, pair_is e a b (eqb-true e.0 a both.0) (eqb-true e.1 b both.1))
  | inr n ↦ let rest = some_dir es a b (omega (arith, h, ap one_if n)) in (suc rest.0, omega (arith, rest.1), rest.2)
]
  where
    pair_is : (e : ℕ × ℕ) (a b : ℕ) → e.0 ≡ a → e.1 ≡ b → e ≡ (a, b)
    pair_is (c, d) a b p q = cc

-- the edges of a member
edge_there : (ts : List Triple) (t : Triple) (e : ℕ × ℕ) → Contains ts t → Contains (edges t) e → Contains (all_edges ts) e
edge_there [] t e h i = absurd (omega (arith, h.1))
edge_there (s ∷ ts) t e (zero, l, is) i = Contains-append_left (edges s) (all_edges ts) e (subst (λ u. Contains (edges u) e) (sym is) i)
edge_there (s ∷ ts) t e (suc k, l, is) i = Contains-append_right (edges s) (all_edges ts) e (edge_there ts t e (k, omega (arith, l), is) i)

-- an edge of a member, in either direction
module _ (points : List (List ℤ)) (ts : List Triple) (long : List (ℕ × ℕ)) (c : Pieces) (apart : AreApart points) (closed : IsClosed (all_edges ts))
    (are : AreLong points (all_edges ts) long) (h : AreGathered points long c) where
  up_is : (a b : ℕ) → a < b → Contains (all_edges ts) (a, b) → places_between (gathered c) a b ≡ cuts points a b
  up_is a b up there = between_is points c a b h.places (known (are.complete (a, b) there up))
    where
      none_left : (xs : List ℕ) → ((k : ℕ) (d : ℕ) → k < length xs → is_inside points a b (get_or xs k d) ≡ false) → filter (is_inside points a b) xs ≡ []
      none_left [] all = refl
      none_left (x ∷ xs) all =
          ap (λ t. cond t (x ∷ filter (is_inside points a b) xs) (filter (is_inside points a b) xs)) (all 0 x (omega arith))
          ∙ none_left xs (λ k d low. all (suc k) d (omega (arith, low)))

      known : HasNone points (a, b) ⊎ Contains long (a, b) → Contains c.edges.keys (a ∷ b ∷ []) ⊎ (cuts points a b ≡ [])
      known (inr there) = h.complete (a, b) there
      known (inl none) =
          inr (ap (ordered (is_nearer points a b)) (none_left (upto (length points))
          (all_upto (λ v. is_inside points a b v ≡ false) (length points) (λ v low. none v low))))

  edge_is : (a b : ℕ) → a < length points → b < length points → (a == b) ≡ false → Contains (all_edges ts) (a, b) → places_from (gathered c) a b ≡ cuts points a b
  edge_is a b la lb differ there = elim (cases_order a b) as (λ _. places_from (gathered c) a b ≡ cuts points a b) [
    | inl e ↦ absurd (eqb-false a b differ e)
    | inr (inl l) ↦
        ap (λ t. if t then places_between (gathered c) a b else reverse (places_between (gathered c) b a)) (lt-ltb a b l) ∙ up_is a b l there
    | inr (inr l) ↦
        let back : Contains (all_edges ts) (b, a) = some_dir (all_edges ts) b a (subst (λ n. 0 < n) (closed a b) (dir_some (all_edges ts) a b there)) in
        ap (λ t. if t then places_between (gathered c) a b else reverse (places_between (gathered c) b a)) (le-ltb a b (omega (arith, l)))
        ∙ ap reverse (up_is b a l back) ∙ sym (cuts_turned points b a apart lb la (λ e. omega (arith, e, l)))
  ]

  -- so rims are those of the definition
  pub has_rims : All (IsBelow (length points)) ts → All (λ t. has_three t ≡ true) ts → HasRims points ts (gathered c)
  has_rims below three k d low =
      let t = get_or ts k d in
      let b = below k d low in
      let outer = and_parts (not (t.0 == t.1) && not (t.1 == t.2)) (not (t.2 == t.0)) (three k d low) in
      let inner = and_parts (not (t.0 == t.1)) (not (t.1 == t.2)) outer.0 in
      let there : Contains ts t = Contains-get_or ts k d low in
      let first = edge_is t.0 t.1 b.a b.b (not-true (t.0 == t.1) inner.0) (edge_there ts t (t.0, t.1) there (0, omega arith, refl)) in
      let second = edge_is t.1 t.2 b.b b.c (not-true (t.1 == t.2) inner.1) (edge_there ts t (t.1, t.2) there (1, omega arith, refl)) in
      let third = edge_is t.2 t.0 b.c b.a (not-true (t.2 == t.0) outer.1) (edge_there ts t (t.2, t.0) there (2, omega arith, refl)) in
      ap (λ l. (t.0 ∷ l) ++ (t.1 ∷ places_from (gathered c) t.1 t.2) ++ (t.2 ∷ places_from (gathered c) t.2 t.0)) first
      ∙ ap (λ l. (t.0 ∷ cuts points t.0 t.1) ++ (t.1 ∷ l) ++ (t.2 ∷ places_from (gathered c) t.2 t.0)) second
      ∙ ap (λ l. (t.0 ∷ cuts points t.0 t.1) ++ (t.1 ∷ cuts points t.1 t.2) ++ (t.2 ∷ l)) third
