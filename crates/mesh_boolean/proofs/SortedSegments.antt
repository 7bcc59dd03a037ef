-- Chains, each with the other turned round behind it: sorted they are one list exactly where the chains have one boundary.
use Rattle.std.proofs.Common.{◌≡◌, ◌+◌, ◌==◌, ◌&&◌, ℕ, pos, Bool, true, false, List, ◌++◌, is_lt, ◌∙◌, ap, arith}
use Rattle.std.specs.Prelude.{count_by}
use Rattle.std.specs.Bool.{Decides}
use Rattle.std.specs.Cmp.{IsStrictWeakOrder}
use Rattle.std.specs.List.Sorted.{IsPermutation, IsSorted}
use Rattle.std.specs.Ordering.{nat_cmp, ordering_then}
use Rattle.std.specs.declared.cmp.Ordering.{Ordering}
use Rattle.std.proofs.lemmas.Bool.Decides.{Decides-and, Decides-eqb, nat_tests}
use Rattle.std.proofs.lemmas.Cmp.{nat_cmp_total, on_total, then_total}
use Rattle.std.proofs.lemmas.Int.{ints}
use Rattle.std.proofs.lemmas.List.MinMax.{ranks_by}
use Rattle.chain_terms.specs.Chains.{dir, one_if}
use Rattle.chain_terms.specs.Odd.{backward}
use Rattle.chain_laws.specs.Chains.{dir-append, dir-backward, dir-permutation, total-same_dir}
use Rattle.chain_laws.specs.Counts.{total-count_by}
use Rattle.chain_laws.proofs.Sorting.{sorted_same, tie, tie-parts}
use Rattle.mesh_boolean.specs.Boundaries.{HaveOneBoundary}

-- the order that pairs have in Rust
abbrev pub edge_cmp : ℕ × ℕ → ℕ × ℕ → Ordering
edge_cmp e f = ordering_then (nat_cmp e.0 f.0) (nat_cmp e.1 f.1)

edge_order : IsStrictWeakOrder (λ x y. is_lt (edge_cmp x y))
edge_order = ranks_by (then_total (on_total (λ (e : ℕ × ℕ). e.0) nat_cmp_total) (on_total (λ (e : ℕ × ℕ). e.1) nat_cmp_total)) (λ e. e)

-- two pairs of which neither is before the other begin with one number, and end with one
one_start : (e f : ℕ × ℕ) → is_lt (edge_cmp e f) ≡ false → is_lt (edge_cmp f e) ≡ false → e.0 ≡ f.0
one_start e f h k = grind (arith, nat_tests, h, k)

one_end : (e f : ℕ × ℕ) → is_lt (edge_cmp e f) ≡ false → is_lt (edge_cmp f e) ≡ false → e.1 ≡ f.1
one_end e f h k = grind (arith, nat_tests, h, k)

-- so they are one
one_pair : (e f : ℕ × ℕ) → tie (λ x y. is_lt (edge_cmp x y)) e f ≡ true → e ≡ f
one_pair e f h =
    let level = tie-parts (λ x y. is_lt (edge_cmp x y)) e f h in
    ap (λ a. (a, e.1)) (one_start e f level.0 level.1) ∙ ap (λ b. (f.0, b)) (one_end e f level.0 level.1)

-- comparing both numbers decides whether two pairs are one
pub pair_decides : (e f : ℕ × ℕ) → Decides ((e.0 == f.0) && (e.1 == f.1)) (e ≡ f)
pair_decides e f =
    let both = Decides-and (e.0 == f.0) (e.1 == f.1) (Decides-eqb e.0 f.0) (Decides-eqb e.1 f.1) in (
      (λ h. let parts = both.0 h in ap (λ a. (a, e.1)) parts.0 ∙ ap (λ b. (f.0, b)) parts.1),
      (λ same. both.1 (ap (λ (p : ℕ × ℕ). p.0) same, ap (λ (p : ℕ × ℕ). p.1) same)),
    )

-- chains in which each edge occurs equally often have the same counts
same_count : (es ms : List (ℕ × ℕ)) → ((a b : ℕ) → dir es a b ≡ dir ms a b) → (p : ℕ × ℕ → Bool) → count_by p es ≡ count_by p ms
same_count es ms same p = omega (arith, ints, total-same_dir (λ e. pos (one_if (p e))) es ms same, total-count_by p es, total-count_by p ms)

-- so they are one list where both are sorted
one_list : (es ms : List (ℕ × ℕ)) → IsSorted edge_cmp es → IsSorted edge_cmp ms → ((a b : ℕ) → dir es a b ≡ dir ms a b) → es ≡ ms
one_list es ms up vp same = sorted_same (λ x y. is_lt (edge_cmp x y)) edge_order es ms up vp (same_count es ms same) (λ x y a b t. one_pair x y t)

-- how often an edge occurs in a chain with another one turned round behind it, in any order
occurs : (es ms there : List (ℕ × ℕ)) → IsPermutation (es ++ backward ms) there → (a b : ℕ) → dir there a b ≡ dir es a b + dir ms b a
occurs es ms there moved a b = omega (arith, dir-permutation (es ++ backward ms) there moved a b, dir-append es (backward ms) a b, dir-backward ms a b)

-- two chains, each with the other turned round behind it, as they are sorted
pub record AreJoined (es ms there back : List (ℕ × ℕ)) : Type 0 where
  pub there_moved : IsPermutation (es ++ backward ms) there
  pub there_sorted : IsSorted edge_cmp there
  pub back_moved : IsPermutation (ms ++ backward es) back
  pub back_sorted : IsSorted edge_cmp back

-- they are one list where they have one boundary
pub same_sorted : (es ms there back : List (ℕ × ℕ)) → AreJoined es ms there back → HaveOneBoundary es ms → there ≡ back
same_sorted es ms there back joined one =
    one_list there back joined.there_sorted joined.back_sorted
    (λ a b. omega (arith, ints, one a b, occurs es ms there joined.there_moved a b, occurs ms es back joined.back_moved a b))

-- and have one boundary where they are one list
pub same_boundary : (es ms there back : List (ℕ × ℕ)) → AreJoined es ms there back → there ≡ back → HaveOneBoundary es ms
same_boundary es ms there back joined same a b =
    omega (arith, ints, ap (λ l. dir l a b) same, occurs es ms there joined.there_moved a b, occurs ms es back joined.back_moved a b)
