-- Vertices sorted by their keys.
use Rattle.std.proofs.Common.{is_lt, ◌≡◌, ◌+◌, ◌<◌, ℕ, ℤ, true, List, length, map, get_or, refl, sym, ap, ◌∙◌, subst, arith}
use Rattle.std.specs.Cmp.{IsTotalOrder, IsStrictWeakOrder}
use Rattle.std.specs.List.{All}
use Rattle.std.specs.List.Sorted.{IsPermutation, IsSorted, IsSortedBy}
use Rattle.std.specs.Ordering.{int_cmp, nat_cmp, ordering_then}
use Rattle.std.specs.declared.cmp.Ordering.{Ordering}
use Rattle.std.proofs.lemmas.Cmp.{then_total, on_total, nat_cmp_total, int_cmp_total}
use Rattle.std.proofs.lemmas.List.{get_or-map, length-map, map-id}
use Rattle.std.proofs.lemmas.List.Elements.{All-map}
use Rattle.std.proofs.lemmas.List.MinMax.{ranks_by}
use Rattle.std.proofs.lemmas.List.Sorted.{All-permutation, IsPermutation-map, length_permutation}
use Rattle.std.proofs.lemmas.Simd.{map-map}
use Rattle.chain_laws.specs.Sorting.{sorted_by}
use Rattle.chain_laws.proofs.Sorting.{tie, tie-parts, sort_is, sorted_by-permutation}
use Rattle.edge_pairing.specs.Keys.{keyed_by}
use Rattle.edge_pairing.specs.Pairing.{comes_before}
use Rattle.edge_pairing.specs.declared.pairs.Keyed.{Keyed}
use Rattle.edge_pairing.proofs.Ties.{equal_both, second_equal, same_number}

-- how two vertices compare
abbrev by_key : (ℕ → ℤ) → ℕ → ℕ → Ordering
by_key key v w = ordering_then (int_cmp (key v) (key w)) (nat_cmp v w)

-- how two of them with their keys compare
abbrev pub keyed_cmp : Keyed → Keyed → Ordering
keyed_cmp x y = ordering_then (int_cmp x.key y.key) (nat_cmp x.vertex y.vertex)

key_total : (key : ℕ → ℤ) → IsTotalOrder (by_key key)
key_total key = then_total (on_total key int_cmp_total) nat_cmp_total

-- the order of vertices is one
key_order : (key : ℕ → ℤ) → IsStrictWeakOrder (comes_before key)
key_order key = ranks_by (key_total key) (λ v. v)

-- vertices that tie are one
tied : (key : ℕ → ℤ) (v w : ℕ) → tie (comes_before key) v w ≡ true → v ≡ w
tied key v w t =
    let level = tie-parts (comes_before key) v w t in
    same_number v w (second_equal (int_cmp (key v) (key w)) (nat_cmp v w) (equal_both (by_key key v w) (by_key key w v) ((key_total key).antisymm v w) level.0 level.1))

-- a value that has its vertex's key
abbrev HasKey : (ℕ → ℤ) → Keyed → Type 0
HasKey key x = x.key ≡ key x.vertex

-- two such values compare as their vertices
compares : (key : ℕ → ℤ) (x y : Keyed) → HasKey key x → HasKey key y → keyed_cmp x y ≡ by_key key x.vertex y.vertex
compares key x y h k = ap (λ n. ordering_then (int_cmp n y.key) (nat_cmp x.vertex y.vertex)) h ∙ ap (λ n. ordering_then (int_cmp (key x.vertex) n) (nat_cmp x.vertex y.vertex)) k

-- sorted values have sorted vertices
vertices_sorted : (key : ℕ → ℤ) (order : List Keyed) → All (HasKey key) order → IsSorted keyed_cmp order → IsSortedBy (comes_before key) (map (λ x. x.vertex) order)
vertices_sorted key order has up k d low high =
    let none : Keyed = record { key = key d; vertex = d } in
    let within : k + 1 < length order = omega (arith, high, length-map order (λ (x : Keyed). x.vertex)) in
    let after = get_or-map (λ (x : Keyed). x.vertex) order (k + 1) none d within in
    let before = get_or-map (λ (x : Keyed). x.vertex) order k none d (omega (arith, within)) in
    ap (λ v. comes_before key v (get_or (map (λ x. x.vertex) order) k d)) after ∙ ap (λ w. comes_before key (get_or order (k + 1) none).vertex w) before
    ∙ ap is_lt (sym (compares key (get_or order (k + 1) none) (get_or order k none) (has (k + 1) none within) (has k none (omega (arith, within)))))
    ∙ up k none low within

-- the vertices behind their keys
vertices_of : (key : ℕ → ℤ) (vs : List ℕ) → map (λ x. x.vertex) (map (keyed_by key) vs) ≡ vs
vertices_of key vs = map-map (λ (x : Keyed). x.vertex) (keyed_by key) vs ∙ map-id vs

-- a sort of the vertices with their keys
pub sorted_vertices : (key : ℕ → ℤ) (vs : List ℕ) (order : List Keyed) → IsPermutation (map (keyed_by key) vs) order → IsSorted keyed_cmp order →
    map (λ x. x.vertex) order ≡ sorted_by (comes_before key) vs
sorted_vertices key vs order moved up =
    let has : All (HasKey key) (map (keyed_by key) vs) = All-map (HasKey key) (keyed_by key) vs (λ k d below. refl) in
    let perm = subst (λ l. IsPermutation l (map (λ x. x.vertex) order)) (vertices_of key vs) (IsPermutation-map (λ (x : Keyed). x.vertex) (map (keyed_by key) vs) order moved) in
    sort_is (comes_before key) (key_order key) vs (map (λ x. x.vertex) order) perm
    (vertices_sorted key order (All-permutation (HasKey key) (map (keyed_by key) vs) order moved has) up)
    (λ v w a b t. tied key v w t)

-- a sorted list has the vertices
pub sorted_moved : (key : ℕ → ℤ) (vs : List ℕ) → IsPermutation vs (sorted_by (comes_before key) vs)
sorted_moved key vs = sorted_by-permutation (comes_before key) vs

-- so it is as long
pub order_length : (key : ℕ → ℤ) (vs : List ℕ) (order : List Keyed) → map (λ x. x.vertex) order ≡ sorted_by (comes_before key) vs → length order ≡ length vs
order_length key vs order is =
    sym (length-map order (λ (x : Keyed). x.vertex)) ∙ ap (λ l. length l) is ∙ length_permutation vs (sorted_by (comes_before key) vs) (sorted_moved key vs)
