-- Oriented triangles one after the other, how they compare, and their half-edges.
use Rattle.std.proofs.Common.{◌≡◌, ◌<◌, ◌+◌, ℕ, true, false, cond, List, [], ◌∷◌, ◌++◌, length, get_or, take, map, is_lt, sym, ◌∙◌, ap, subst, arith}
use Rattle.std.specs.Ordering.{nat_cmp, ordering_then}
use Rattle.std.specs.declared.cmp.Ordering.{Ordering}
use Rattle.std.specs.declared.cmp.Ordering.TheVariants.{Less, Equal, Greater}
use Rattle.std.specs.List.{All, filter}
use Rattle.std.specs.List.Sorted.{IsPermutation, IsSorted}
use Rattle.std.proofs.lemmas.Bool.Decides.{nat_tests}
use Rattle.std.proofs.lemmas.List.{get_or-map, length-map, map-append, append-nil, take_more}
use Rattle.std.proofs.lemmas.List.Elements.{All-push, filter-append}
use Rattle.std.proofs.lemmas.List.Sorted.{IsPermutation-map, All-permutation}
use Rattle.mesh_terms.specs.Meshes.{Triple, triple_of, triples_of}
use Rattle.mesh_terms.specs.OpenEdges.{is_lesser}
use Rattle.halfedge.specs.Pairing.{Half, half_cmp, IsSortOf}
use Rattle.halfedge.specs.Ways.{half_of, runs_up}
use Rattle.mesh_check.specs.declared.oriented.Oriented.{Oriented}
use Rattle.mesh_check.specs.Cancelling.{vertices_of, as_half, halves_of, turned_over}
use Rattle.mesh_check.specs.Orientations.{least_first, edge_of, orientation_edge, orientation_edges, IsNarrow}

-- by the vertices, in order
abbrev pub vertices_cmp : Triple → Triple → Ordering
vertices_cmp s t = ordering_then (ordering_then (nat_cmp s.0 t.0) (nat_cmp s.1 t.1)) (nat_cmp s.2 t.2)

-- edges compare as the vertices do
pub edge_less : (s t : Triple) → IsNarrow s → IsNarrow t → vertices_cmp s t ≡ Less → is_lesser (edge_of s) (edge_of t) ≡ true
edge_less s t m n is = grind (arith, nat_tests, m.b, m.c, n.b, n.c, is)

pub edge_more : (s t : Triple) → IsNarrow s → IsNarrow t → vertices_cmp s t ≡ Greater → is_lesser (edge_of t) (edge_of s) ≡ true
edge_more s t m n is = grind (arith, nat_tests, m.b, m.c, n.b, n.c, is)

pub edge_equal : (s t : Triple) → vertices_cmp s t ≡ Equal → edge_of s ≡ edge_of t
edge_equal s t is =
    let a : s.0 ≡ t.0 = grind (arith, nat_tests, is) in
    let b : s.1 ≡ t.1 = grind (arith, nat_tests, is) in
    let c : s.2 ≡ t.2 = grind (arith, nat_tests, is) in
    λ i. edge_of (a i, b i, c i)

-- the order of oriented triangles
abbrev pub way_cmp : Oriented → Oriented → Ordering
way_cmp x y = ordering_then (nat_cmp x.least y.least) (ordering_then (nat_cmp x.second y.second) (ordering_then (nat_cmp x.third y.third) (nat_cmp x.place y.place)))

-- is that of their half-edges
half_before : (x y : Oriented) → IsNarrow (vertices_of x) → IsNarrow (vertices_of y) → is_lt (way_cmp x y) ≡ false → is_lt (half_cmp (as_half x) (as_half y)) ≡ false
half_before x y m n is = grind (arith, nat_tests, m.b, m.c, n.b, n.c, is)

-- so sorted triangles are sorted half-edges
halves_sorted : (xs : List Oriented) → All (λ o. IsNarrow (vertices_of o)) xs → IsSorted way_cmp xs → IsSorted half_cmp (halves_of xs)
halves_sorted xs narrow up k d low high =
    let none : Oriented = record { least = 0; second = 0; third = 0; place = 0 } in
    let within : k + 1 < length xs = omega (arith, high, length-map xs as_half) in
    let before : k < length xs = omega (arith, within) in
    let here = get_or-map as_half xs k none d before in
    let next = get_or-map as_half xs (k + 1) none d within in
    (λ i. is_lt (half_cmp (next i) (here i))) ∙ half_before (get_or xs (k + 1) none) (get_or xs k none) (narrow (k + 1) none within) (narrow k none before) (up k none low within)

-- narrow triangles, sorted, are their half-edges, sorted
pub sort_of_halves : (hs : List Half) (os sorted : List Oriented) → halves_of os ≡ hs → All (λ o. IsNarrow (vertices_of o)) os → IsPermutation os sorted →
    IsSorted way_cmp sorted → IsSortOf hs (halves_of sorted)
sort_of_halves hs os sorted known narrow moved up = record {
  moved = subst (λ l. IsPermutation l (halves_of sorted)) known (IsPermutation-map as_half os sorted moved);
  up = halves_sorted sorted (All-permutation (λ o. IsNarrow (vertices_of o)) os sorted moved narrow) up;
}

-- the triangle at a place, from its least vertex on, is the half-edge there
pub half_there : (ts : List (List ℕ)) (p : ℕ) (o : Oriented) → p < length ts → vertices_of o ≡ least_first (triple_of (get_or ts p [])) → o.place ≡ p →
    as_half o ≡ half_of (orientation_edges (triples_of ts)) p
half_there ts p o low vertices place =
    let edge : orientation_edge (triple_of (get_or ts p [])) ≡ get_or (orientation_edges (triples_of ts)) p (0, 0) =
    sym (get_or-map orientation_edge (triples_of ts) p (0, 0, 0) (0, 0) (omega (arith, low, length-map ts triple_of))
    ∙ ap orientation_edge (get_or-map triple_of ts p [] (0, 0, 0) low)) in
    (λ i. ((edge_of (vertices i)).0, (edge_of (vertices i)).1, place i)) ∙ (λ i. ((edge i).0, (edge i).1, p))

-- it runs up where the second vertex is below the third
pub up_from_second : (o : Oriented) → o.second < o.third → runs_up (as_half o) ≡ true
up_from_second o less = grind (arith, nat_tests, less)

-- and does not where it is not
pub not_up : (o : Oriented) → (o.second < o.third → ⊥) → runs_up (as_half o) ≡ false
not_up o above = grind (arith, nat_tests, above)

-- those of the first half-edges of a list that run up, with one half-edge more
up_longer : (f : ℕ → Half) (places : List ℕ) (i d : ℕ) → i < length places →
    filter runs_up (map f (take (i + 1) places)) ≡ filter runs_up (map f (take i places)) ++ cond (runs_up (f (get_or places i d))) (f (get_or places i d) ∷ []) []
up_longer f places i d low =
    ap (λ l. filter runs_up (map f l)) (take_more places i d low) ∙ ap (filter runs_up) (map-append f (take i places) (get_or places i d ∷ []))
    ∙ filter-append runs_up (map f (take i places)) (f (get_or places i d) ∷ [])

-- it is taken where it runs up
pub taken : (f : ℕ → Half) (places : List ℕ) (i d : ℕ) (os new : List Oriented) (o : Oriented) → i < length places →
    halves_of os ≡ filter runs_up (map f (take i places)) → new ≡ os ++ o ∷ [] → as_half o ≡ f (get_or places i d) → runs_up (as_half o) ≡ true
    → halves_of new ≡ filter runs_up (map f (take (i + 1) places))
taken f places i d os new o low known more is up =
    let none : List Half = [] in
    ap halves_of more ∙ map-append as_half os (o ∷ []) ∙ (λ k. known k ++ is k ∷ none)
    ∙ ap (λ t. filter runs_up (map f (take i places)) ++ cond t (f (get_or places i d) ∷ []) []) (sym up ∙ ap runs_up is)
    ∙ sym (up_longer f places i d low)

-- and left out where it does not
pub left_out : (f : ℕ → Half) (places : List ℕ) (i d : ℕ) (os new : List Oriented) (o : Oriented) → i < length places →
    halves_of os ≡ filter runs_up (map f (take i places)) → new ≡ os → as_half o ≡ f (get_or places i d) → runs_up (as_half o) ≡ false
    → halves_of new ≡ filter runs_up (map f (take (i + 1) places))
left_out f places i d os new o low known same is down =
    ap halves_of same ∙ known ∙ sym (append-nil (filter runs_up (map f (take i places))))
    ∙ ap (λ t. filter runs_up (map f (take i places)) ++ cond t (f (get_or places i d) ∷ []) []) (sym down ∙ ap runs_up is)
    ∙ sym (up_longer f places i d low)

-- with one narrow triangle more, all are narrow
pub all_narrow : (os new : List Oriented) (o : Oriented) → new ≡ os ++ o ∷ [] → All (λ p. IsNarrow (vertices_of p)) os → IsNarrow (vertices_of o) →
    All (λ p. IsNarrow (vertices_of p)) new
all_narrow os new o more narrow here = subst (All (λ p. IsNarrow (vertices_of p))) (sym more) (All-push (λ p. IsNarrow (vertices_of p)) os o narrow here)

-- the other side of a narrow triangle is narrow
pub other_narrow : (o : Oriented) → IsNarrow (vertices_of o) → IsNarrow (vertices_of (turned_over o))
other_narrow o narrow = record { a = narrow.a; b = narrow.c; c = narrow.b }
