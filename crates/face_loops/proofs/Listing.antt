-- The sorted list of starts.
use Rattle.std.proofs.Common.{is_lt, nat_lt, ◌≡◌, ◌≢◌, ◌+◌, ◌<◌, ◌≤◌, ℕ, zero, suc, true, false, List, [], ◌∷◌, ◌++◌, length, get_or, refl, sym, ap, ◌∙◌, arith, inl, inr, Some, None, Option}
use Rattle.std.specs.Cmp.{IsStrictWeakOrder}
use Rattle.std.specs.List.{Contains}
use Rattle.std.specs.List.Sorted.{IsPermutation, IsSorted, IsNonDecreasingBy, IsPartitionPoint, IsPartitionedBy}
use Rattle.std.specs.Ordering.{nat_cmp, ordering_then}
use Rattle.std.specs.declared.cmp.Ordering.{Ordering}
use Rattle.std.proofs.lemmas.Bool.{ltb-true, ltb-false, cases_lt}
use Rattle.std.proofs.lemmas.Bool.Decides.{nat_tests}
use Rattle.std.proofs.lemmas.Cmp.{then_total, on_total, nat_cmp_total}
use Rattle.std.proofs.lemmas.List.{get_or_default}
use Rattle.std.proofs.lemmas.List.Elements.{All-weaker, All-contains_itself, All-contains}
use Rattle.std.proofs.lemmas.List.MinMax.{ranks_by}
use Rattle.std.proofs.lemmas.List.Sorted.{sorted_far, Contains-permutation, IsPermutation-sym, IsNonDecreasingBy-from_default, IsPartitionedBy-ltb}
use Rattle.chain_terms.specs.Ranks.{start}
use Rattle.face_loops.specs.Starts.{starts_from, starts_of, RiseByStart, HasStarts, IsListed, IsStartOf}

-- by the first, then by the second
abbrev pub pair_cmp : ℕ × ℕ → ℕ × ℕ → Ordering
pair_cmp e f = ordering_then (nat_cmp e.0 f.0) (nat_cmp e.1 f.1)

-- pairs are ordered
pair_order : IsStrictWeakOrder (λ x y. is_lt (pair_cmp x y))
pair_order = ranks_by (then_total (on_total (λ (e : ℕ × ℕ). e.0) nat_cmp_total) (on_total (λ (e : ℕ × ℕ). e.1) nat_cmp_total)) (λ e. e)

-- of two pairs of which the second is not before the first
first_ascends : (e f : ℕ × ℕ) → is_lt (pair_cmp f e) ≡ false → e.0 ≤ f.0
first_ascends e f h = grind (arith, nat_tests, h)

-- one more edge
pub starts_from-push : (k : ℕ) (es : List (ℕ × ℕ)) (e : ℕ × ℕ) → starts_from k (es ++ e ∷ []) ≡ starts_from k es ++ (e.0, k + length es) ∷ []
starts_from-push k [] e = ap (λ n. (e.0, n) ∷ []) (omega arith)
starts_from-push k (d ∷ es) e =
    let same : suc k + length es ≡ k + length (d ∷ es) = omega arith in
    ap (λ l. (d.0, k) ∷ l) (starts_from-push (suc k) es e ∙ ap (λ n. starts_from (suc k) es ++ (e.0, n) ∷ []) same)

-- the start at a place
pub starts_from_at : (k : ℕ) (es : List (ℕ × ℕ)) (i : ℕ) (d : ℕ × ℕ) → i < length es → get_or (starts_from k es) i d ≡ (start es i, k + i)
starts_from_at k [] i d below = absurd (omega (arith, below))
starts_from_at k (e ∷ es) zero d below = ap (λ n. (e.0, n)) (omega arith)
starts_from_at k (e ∷ es) (suc i) d below =
    let same : suc k + i ≡ k + suc i = omega arith in
    starts_from_at (suc k) es i d (omega (arith, below)) ∙ ap (λ n. (start es i, n)) same

-- as many as edges
pub length-starts_from : (k : ℕ) (es : List (ℕ × ℕ)) → length (starts_from k es) ≡ length es
length-starts_from k [] = refl
length-starts_from k (e ∷ es) = omega (arith, length-starts_from (suc k) es)

-- what a sort gives
pub sorted_starts : (es index : List (ℕ × ℕ)) → IsPermutation (starts_of es) index → IsSorted pair_cmp index → HasStarts es index
sorted_starts es index moved up = record {
  rise = λ i j le below. first_ascends (get_or index i (0, 0)) (get_or index j (0, 0)) (sorted_far (λ x y. is_lt (pair_cmp x y)) pair_order index up i j (0, 0) le below);
  each = All-weaker (Contains (starts_of es)) (Contains index) (λ x. Contains-permutation (starts_of es) index x moved) (starts_of es) (All-contains_itself (starts_of es));
  only = All-weaker (Contains index) (Contains (starts_of es)) (λ x. Contains-permutation index (starts_of es) x (IsPermutation-sym (starts_of es) index moved))
      index (All-contains_itself index);
}

-- each edge's start is in the list with its place
listed : (es index : List (ℕ × ℕ)) → HasStarts es index → (k : ℕ) → k < length es → Contains index (start es k, k)
listed es index has k below =
    let inside : k < length (starts_of es) = omega (arith, below, length-starts_from 0 es) in
    let at : Contains index (get_or (starts_of es) k (0, 0)) = has.each k (0, 0) inside in
    let same : 0 + k ≡ k = omega arith in
    let e = starts_from_at 0 es k (0, 0) below ∙ ap (λ n. (start es k, n)) same in
    rw e at at

-- and what is in the list is an edge's start
unlisted : (es index : List (ℕ × ℕ)) → HasStarts es index → (v place : ℕ) → Contains index (v, place) → (place < length es) × (start es place ≡ v)
unlisted es index has v place inside =
    let c : Contains (starts_of es) (v, place) = All-contains (Contains (starts_of es)) index (v, place) has.only inside in
    let below : c.0 < length es = omega (arith, c.1, length-starts_from 0 es) in
    let e = sym (starts_from_at 0 es c.0 (v, place) below) ∙ c.2 in
    let first : start es c.0 ≡ v = ap (λ p. p.0) e in
    let second : 0 + c.0 ≡ place = ap (λ p. p.1) e in
    let same : c.0 ≡ place = omega (arith, second) in
    (omega (arith, below, same), ap (start es) (sym same) ∙ first)

-- what the list has behind a vertex
pub start_from_list : (es index : List (ℕ × ℕ)) (v : ℕ) (r : Option ℕ) → HasStarts es index → IsListed index v r → IsStartOf es v r
start_from_list es index v None has none = λ k below here. All-contains (λ s. s.0 ≡ v → ⊥) index (start es k, k) none (listed es index has k below) here
start_from_list es index v (Some place) has inside = unlisted es index has v place inside

-- the first parts rise, as std says it
rising : (index : List (ℕ × ℕ)) → RiseByStart index → IsNonDecreasingBy (λ (s : ℕ × ℕ). s.0) index
rising index rise = IsNonDecreasingBy-from_default (λ s. s.0) index (0, 0) rise

-- the place before which all starts are below v
abbrev pub IsPointOf : List (ℕ × ℕ) → ℕ → ℕ → Type 0
IsPointOf index v at = IsPartitionPoint (λ s. nat_lt s.0 v ≡ true) (λ s. nat_lt s.0 v ≡ false) index at

-- where the list rises, a search for the first place that is not below v finds it
pub point_found : (index : List (ℕ × ℕ)) (v : ℕ) → RiseByStart index → IsPartitionedBy (λ s. nat_lt s.0 v) index
point_found index v rise = IsPartitionedBy-ltb (λ (s : ℕ × ℕ). s.0) index v (rising index rise)

-- where v does not stand there, it stands nowhere
pub none_listed : (index : List (ℕ × ℕ)) (v at : ℕ) → RiseByStart index → IsPointOf index v at → (at < length index → (get_or index at (0, 0)).0 ≢ v) → IsListed index v None
none_listed index v at rise point other k d below same =
    elim (cases_lt k at) as (λ _. ⊥) [
      | inl before ↦ omega (arith, ltb-true (get_or index k d).0 v (point.0 k d (omega arith) before), same)
      | inr after ↦
          let first : v ≤ (get_or index at (0, 0)).0 = ltb-false (get_or index at (0, 0)).0 v (point.1 at (0, 0) (omega arith) (omega (arith, after, below))) in
          let up : (get_or index at (0, 0)).0 ≤ (get_or index k (0, 0)).0 = rise at k after below in
          let here : (get_or index k (0, 0)).0 ≡ v = ap (λ (s : ℕ × ℕ). s.0) (get_or_default index k (0, 0) d below) ∙ same in
          other (omega (arith, after, below)) (omega (arith, first, up, here))
    ]
