-- Numbered half-edges and the turned ones; how many edges are lesser than an edge; the least open edge from two lists in any order.
use Rattle.std.proofs.Common.{◌≡◌, ◌≤◌, ◌+◌, ℕ, zero, suc, Bool, true, false, List, [], ◌∷◌, map, Option, refl, ap, subst, arith}
use Rattle.std.specs.List.Sorted.{IsPermutation}
use Rattle.std.specs.Option.{IsNone, IfSome}
use Rattle.std.proofs.lemmas.List.Sorted.{IsPermutation-map}
use Rattle.std.proofs.lemmas.Bool.Decides.{nat_tests}
use Rattle.chain_terms.specs.Chains.{is_edge, one_if, dir}
use Rattle.chain_terms.specs.Odd.{backward}
use Rattle.chain_laws.specs.Counts.{count_by-cons}
use Rattle.chain_terms.specs.Ranks.{rank, start, finish}
use Rattle.mesh_terms.specs.OpenEdges.{is_lesser, open_pair}
use Rattle.halfedge.specs.Surplus.{IsLeastSurplus, HasNoSurplus}
use Rattle.halfedge.proofs.OpenPair.{open_pair_found}
use Rattle.halfedge.specs.Pairing.{Half, numbered, turned, ends, ends_of}
use Rattle.halfedge.proofs.Positions.{lesser_count}

-- turned, the numbered edges are the numbered turned edges
pub turned-numbered : (k : ℕ) (es : List (ℕ × ℕ)) → map turned (numbered k es) ≡ numbered k (backward es)
turned-numbered k [] = refl
turned-numbered k (e ∷ es) = ap (λ l. (e.1, e.0, k) ∷ l) (turned-numbered (suc k) es)

-- where x is lesser than y, so are the edges that are lesser than x, and those that run as x
lesser_more : (e x y : ℕ × ℕ) → is_lesser x y ≡ true → one_if (is_lesser e x) + one_if (is_edge e x.0 x.1) ≤ one_if (is_lesser e y)
lesser_more e x y less = grind (arith, nat_tests, less)

-- so at least as many edges are lesser than y
pub lesser_count_more : (es : List (ℕ × ℕ)) (x y : ℕ × ℕ) → is_lesser x y ≡ true → lesser_count es x + dir es x.0 x.1 ≤ lesser_count es y
lesser_count_more [] x y less = omega arith
lesser_count_more (e ∷ es) x y less =
    omega (arith, count_by-cons (λ d. is_lesser d x) e es, count_by-cons (λ d. is_lesser d y) e es, lesser_more e x y less, lesser_count_more es x y less)

-- one more place has at most one more
pub rank_suc : {X : Type 0} (p : X → Bool) (xs : List X) (m : ℕ) → rank p xs (suc m) ≤ rank p xs m + 1
rank_suc p [] m = omega arith
rank_suc p (x ∷ []) zero = one_at_most (p x)
  where
    one_at_most : (t : Bool) → one_if t + 0 ≤ 0 + 1
    one_at_most true = omega arith
    one_at_most false = omega arith
rank_suc p (x ∷ y ∷ xs) zero = one_at_most (p x)
  where
    one_at_most : (t : Bool) → one_if t + 0 ≤ 0 + 1
    one_at_most true = omega arith
    one_at_most false = omega arith
rank_suc p (x ∷ xs) (suc m) = omega (arith, rank_suc p xs m)

-- where the edge at a place runs
abbrev pub edge_at : List (ℕ × ℕ) → ℕ → ℕ × ℕ
edge_at es g = (start es g, finish es g)

-- without the numbers the numbered edges are the edges
pub ends-numbered : (k : ℕ) (es : List (ℕ × ℕ)) → ends_of (numbered k es) ≡ es
ends-numbered k [] = refl
ends-numbered k (e ∷ es) = ap (λ l. e ∷ l) (ends-numbered (suc k) es)

-- the least edge that the half-edges in some order have more often than the turned ones in some order is the least open edge
pub open_found : (es : List (ℕ × ℕ)) (xs ys : List Half) (found : Option (ℕ × ℕ)) → IsPermutation (numbered 0 es) xs →
    IsPermutation (numbered 0 (backward es)) ys → (IsNone found → HasNoSurplus (ends_of xs) (ends_of ys)) →
    IfSome found (IsLeastSurplus (ends_of xs) (ends_of ys)) → found ≡ open_pair es
open_found es xs ys found moved back_moved none least =
    open_pair_found es (backward es) (ends_of xs) (ends_of ys) found refl
    (subst (λ l. IsPermutation l (ends_of xs)) (ends-numbered 0 es) (IsPermutation-map ends (numbered 0 es) xs moved))
    (subst (λ l. IsPermutation l (ends_of ys)) (ends-numbered 0 (backward es)) (IsPermutation-map ends (numbered 0 (backward es)) ys back_moved))
    none least
