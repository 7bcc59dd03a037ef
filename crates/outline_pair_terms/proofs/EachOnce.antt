-- Each copy is a vertex of exactly one loop of the result.
use Rattle.std.proofs.Common.{◌≡◌, ℕ, ◌<◌, cond, ◌==◌, ℤ, inl, inr, List, [], ◌∷◌, ◌++◌, length, refl, sym, ap, subst, ◌∙◌, arith}
use Rattle.std.specs.List.{concat, flat_map}
use Rattle.std.specs.List.Sorted.{IsPermutation}
use Rattle.std.proofs.lemmas.Bool.{cases_lt, eqb-true, eq-eqb}
use Rattle.std.proofs.lemmas.List.Sorted.{IsPermutation-append, IsPermutation-middle, IsPermutation-refl, IsPermutation-sym, IsPermutation-trans, sum_by-IsPermutation}
use Rattle.chain_terms.specs.Chains.{one_if}
use Rattle.chain_terms.specs.Cycles.{cycles, out}
use Rattle.chain_terms.specs.Paths.{round_edges}
use Rattle.chain_terms.specs.Sums.{upto}
use Rattle.chain_laws.specs.Counts.{count_by-cons, count_by-middle, split_by}
use Rattle.chain_laws.proofs.Cycles.{cycles_edges}
use Rattle.face_loops.specs.Standings.{AreEven, StandOnce, segments_of, start_count}
use Rattle.face_loops.proofs.Counting.{times_in}
use Rattle.face_loops.proofs.OneToOne.{absent, occurs, one_to_one}
use Rattle.outline_terms.proofs.Standing.{loops_out, none_past, once_below}

-- lists with each number equally often are each other's permutations
pub permutation_from : (xs ys : List ℕ) → ((v : ℕ) → times_in v xs ≡ times_in v ys) → IsPermutation xs ys
permutation_from [] [] same = IsPermutation-refl []
permutation_from [] (y ∷ ys) same = absurd (omega (arith, same y, count_by-cons (λ u. u == y) y ys, ap one_if (eq-eqb y y refl)))
permutation_from (x ∷ xs) ys same =
    let s = split_by (λ u. u == x) ys (omega (arith, same x, count_by-cons (λ u. u == x) x xs, ap one_if (eq-eqb x x refl))) in
    let is : s.member ≡ x = eqb-true s.member x s.passes in
    let rest = permutation_from xs (s.front ++ s.back) (λ v.
    omega (arith, same v, count_by-cons (λ u. u == v) x xs, ap (times_in v) s.joined, count_by-middle (λ u. u == v) s.front s.member s.back, ap (λ u. one_if (u == v)) is)) in
    let first = IsPermutation-append (x ∷ []) (x ∷ []) xs (s.front ++ s.back) (IsPermutation-refl (x ∷ [])) rest in
    let second = IsPermutation-sym (s.front ++ x ∷ s.back) (x ∷ (s.front ++ s.back)) (IsPermutation-middle s.front x s.back) in
    let whole : s.front ++ x ∷ s.back ≡ ys = ap (λ u. s.front ++ u ∷ s.back) (sym is) ∙ sym s.joined in
    subst (λ l. IsPermutation (x ∷ xs) l) whole (IsPermutation-trans (x ∷ xs) (x ∷ (s.front ++ s.back)) (s.front ++ x ∷ s.back) first second)

-- where every number below n is a start of one list, the loops of the segments have each once
pub each_once : {X : Type 0} (stand key : X → ℕ → ℤ) (n : ℕ) (xs : List X) → AreEven stand n xs → StandOnce stand n xs →
    ((v : ℕ) → v < n → start_count stand xs v ≡ 1) → IsPermutation (upto n) (concat (cycles (segments_of stand key n xs)))
each_once stand key n xs even once starts =
    let es = segments_of stand key n xs in
    let moved = cycles_edges (length es) es (omega arith) (one_to_one stand key n xs even once).balanced in
    let same : (v : ℕ) → times_in v (concat (cycles es)) ≡ out es v = λ v.
    sym (loops_out (cycles es) v) ∙ sum_by-IsPermutation (λ e. cond (e.0 == v) 1 0) es (flat_map round_edges (cycles es)) moved in
    permutation_from (upto n) (concat (cycles es)) (λ v. elim (cases_lt v n) as (λ _. times_in v (upto n) ≡ times_in v (concat (cycles es))) [
      | inl l ↦ omega (arith, once_below n v l, same v, (occurs stand key n xs even v l).outs, starts v l)
      | inr m ↦ omega (arith, none_past n v m, same v, (absent stand key n xs even v m).outs)
    ])
