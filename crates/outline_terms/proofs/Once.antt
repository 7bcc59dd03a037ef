-- Each vertex of an outline starts one edge and ends one, and no edge has one that runs back.
use Rattle.std.proofs.Common.{◌≡◌, ◌≢◌, ℕ, zero, suc, ◌<◌, ◌≤◌, inl, inr, cond, ◌==◌, List, [], ◌∷◌, length, get_or, refl, sym, ap, ◌∙◌, arith}
use Rattle.std.specs.List.{All, Contains, concat}
use Rattle.std.specs.List.Sorted.{IsPermutation}
use Rattle.std.proofs.lemmas.Bool.{cases_lt, eq-eqb}
use Rattle.std.proofs.lemmas.List.{get_or_default}
use Rattle.std.proofs.lemmas.List.Elements.{Contains-get_or}
use Rattle.std.proofs.lemmas.List.Sorted.{sum_by-IsPermutation}
use Rattle.chain_terms.specs.Chains.{one_if}
use Rattle.chain_terms.specs.Cycles.{into, out}
use Rattle.chain_terms.specs.Ranks.{start, finish}
use Rattle.chain_terms.specs.Sums.{upto}
use Rattle.chain_laws.specs.Counts.{count_by-cons}
use Rattle.face_loops.specs.Segments.{AreDifferent}
use Rattle.face_loops.proofs.Counting.{times_in}
use Rattle.outline_terms.specs.Outlines.{IsOutline, Outline, outline_edges}
use Rattle.outline_terms.proofs.Returning.{At, NoReturn, ends_in, no_edge_returns}
use Rattle.outline_terms.proofs.Standing.{none_past, once_below, one_into, one_out}

-- no edge ends where it starts
pub ends_differ : (es : List (ℕ × ℕ)) → NoReturn es → All (λ e. e.0 ≢ e.1) es
ends_differ es none k d low e =
    let x = get_or es k d in
    let here : Contains es (x.0, x.0) = (k, low, get_or_default es k (x.0, x.0) d low ∙ (λ i. (x.0, sym e i))) in
    none x.0 x.0 here here

-- each vertex starts one edge and ends one
pub record IsOnce (es : List (ℕ × ℕ)) (n : ℕ) : Type 0 where
  pub starts : (v : ℕ) → v < n → out es v ≡ 1
  pub ends : (v : ℕ) → v < n → into es v ≡ 1
  pub none : NoReturn es

-- a member stands at least once
pub some_time : (xs : List ℕ) (i v : ℕ) → i < length xs → get_or xs i 0 ≡ v → 0 < times_in v xs
some_time [] i v low e = absurd (omega (arith, low))
some_time (x ∷ xs) zero v low e = omega (arith, count_by-cons (λ u. u == v) x xs, ap one_if (eq-eqb x v e))
some_time (x ∷ xs) (suc i) v low e = omega (arith, count_by-cons (λ u. u == v) x xs, some_time xs i v (omega (arith, low)) e)

-- numbers of which none stands twice are different
different : (xs : List ℕ) → ((v : ℕ) → times_in v xs ≤ 1) → AreDifferent xs
different [] few i j less low e = omega (arith, low)
different (x ∷ xs) few zero zero less low e = omega (arith, less)
different (x ∷ xs) few zero (suc j) less low e = omega (arith, few x, count_by-cons (λ u. u == x) x xs, ap one_if (eq-eqb x x refl), some_time xs j x (omega (arith, low)) (sym e))
different (x ∷ xs) few (suc i) zero less low e = omega (arith, less)
different (x ∷ xs) few (suc i) (suc j) less low e = different xs (λ v. omega (arith, few v, count_by-cons (λ u. u == v) x xs)) i j (omega (arith, less)) (omega (arith, low)) e

-- the vertices of an outline's loops are
pub outline_different : (n : ℕ) (loops : List (List ℕ)) → IsPermutation (upto n) (concat loops) → AreDifferent (concat loops)
outline_different n loops moved = different (concat loops) (λ v. elim (cases_lt v n) as (λ _. times_in v (concat loops) ≤ 1) [
  | inl l ↦ omega (arith, sum_by-IsPermutation (λ x. cond (x == v) 1 0) (upto n) (concat loops) moved, once_below n v l)
  | inr m ↦ omega (arith, sum_by-IsPermutation (λ x. cond (x == v) 1 0) (upto n) (concat loops) moved, none_past n v m)
])

-- so each starts one edge and ends one, and no edge has one that runs back
pub outline_once : (o : Outline) → IsOutline o → IsOnce (outline_edges o) (length o.points)
outline_once o is = record {
  starts = one_out (length o.points) o.loops is.each;
  ends = one_into (length o.points) o.loops is.each;
  none = no_edge_returns o.loops (outline_different (length o.points) o.loops is.each) is.long;
}

-- the vertices of an outline's loops are those of its points
pub member_below : (n : ℕ) (loops : List (List ℕ)) → IsPermutation (upto n) (concat loops) → (i v : ℕ) → At (concat loops) i v → v < n
member_below n loops moved i v a = elim (cases_lt v n) as (λ _. v < n) [
  | inl l ↦ l
  | inr m ↦ absurd (omega (arith, some_time (concat loops) i v a.low a.is, sum_by-IsPermutation (λ x. cond (x == v) 1 0) (upto n) (concat loops) moved, none_past n v m))
]

-- so edges run between them
pub edge_ends : (o : Outline) → IsOutline o → (k : ℕ) → k < length (outline_edges o) →
    (start (outline_edges o) k < length o.points) × (finish (outline_edges o) k < length o.points)
edge_ends o is k low =
    let es = outline_edges o in
    let here : Contains es (start es k, finish es k) = Contains-get_or es k (0, 0) low in
    let e = ends_in o.loops (start es k) (finish es k) here in
    (member_below (length o.points) o.loops is.each e.0.0 (start es k) e.0.1, member_below (length o.points) o.loops is.each e.1.0 (finish es k) e.1.1)
