-- The vertices of the cycles are where the edges start, each once.
use Rattle.std.proofs.Common.{◌≡◌, ◌≤◌, ◌<◌, ℕ, zero, suc, List, [], ◌∷◌, ◌++◌, cond, ◌==◌, length, map, get_or, refl, sym, ap, ◌∙◌, arith}
use Rattle.std.specs.Prelude.{count_by}
use Rattle.std.specs.List.{All, concat, flat_map}
use Rattle.std.specs.List.Sorted.{IsPermutation}
use Rattle.std.proofs.lemmas.Bool.{eq-eqb}
use Rattle.std.proofs.lemmas.List.{map-append}
use Rattle.std.proofs.lemmas.List.Elements.{All-nil, All-cons, Contains-get_or}
use Rattle.std.proofs.lemmas.List.Sorted.{sum_by-IsPermutation}
use Rattle.chain_terms.specs.Chains.{dir}
use Rattle.chain_terms.specs.Cycles.{out, follow, cycles_within, cycles}
use Rattle.chain_terms.specs.Paths.{path, last_of, round_edges}
use Rattle.chain_laws.specs.Chains.{dir-permutation}
use Rattle.chain_laws.specs.Counts.{count_by-cons, count_by-map, one_if-true}
use Rattle.chain_laws.specs.Firsts.{counted}
use Rattle.chain_laws.proofs.Cycles.{cycles_edges}
use Rattle.face_loops.specs.Segments.{IsOneToOne, AreDifferent}

-- where the edges start
abbrev from_of : List (ℕ × ℕ) → List ℕ
from_of es = map (λ e. e.0) es

-- where a round's edges start
from_of-path : (x : ℕ) (r : List ℕ) (y : ℕ) → from_of (path x r ++ (last_of x r, y) ∷ []) ≡ x ∷ r
from_of-path x [] y = refl
from_of-path x (z ∷ r) y = ap (λ l. x ∷ l) (from_of-path z r y)

from_of-round : (r : List ℕ) → from_of (round_edges r) ≡ r
from_of-round [] = refl
from_of-round (x ∷ r) = from_of-path x r x

-- and those of all rounds
from_of-rounds : (loops : List (List ℕ)) → from_of (flat_map round_edges loops) ≡ concat loops
from_of-rounds [] = refl
from_of-rounds (r ∷ loops) =
    map-append (λ (e : ℕ × ℕ). e.0) (round_edges r) (flat_map round_edges loops) ∙ ap (λ l. l ++ from_of (flat_map round_edges loops)) (from_of-round r)
    ∙ ap (λ l. r ++ l) (from_of-rounds loops)

-- a list in which each number stands at most once
different_from_counts : (xs : List ℕ) → ((v : ℕ) → count_by (λ w. w == v) xs ≤ 1) → AreDifferent xs
different_from_counts [] once i j before below same = omega (arith, below)
different_from_counts (x ∷ xs) once zero zero before below same = omega (arith, before)
different_from_counts (x ∷ xs) once zero (suc j) before below same =
    let here = one_if-true (x == x) (eq-eqb x x refl) in
    omega (
      arith,
      once x,
      count_by-cons (λ w. w == x) x xs,
      here,
      counted (λ w. w == x) (get_or xs j 0) xs (Contains-get_or xs j 0 (omega (arith, below)))
          (eq-eqb (get_or xs j 0) x (sym same)),
    )
different_from_counts (x ∷ xs) once (suc i) zero before below same = omega (arith, before)
different_from_counts (x ∷ xs) once (suc i) (suc j) before below same =
    different_from_counts xs (λ v. omega (arith, once v, count_by-cons (λ w. w == v) x xs)) i j (omega (arith, before)) (omega (arith, below)) same

-- the edges round the cycles are the edges
moved : (es : List (ℕ × ℕ)) → IsOneToOne es → IsPermutation es (flat_map round_edges (cycles es))
moved es one = cycles_edges (length es) es (omega arith) one.balanced

pub same_edges : (es : List (ℕ × ℕ)) → IsOneToOne es → (a b : ℕ) → dir (flat_map round_edges (cycles es)) a b ≡ dir es a b
same_edges es one a b = dir-permutation es (flat_map round_edges (cycles es)) (moved es one) a b

-- a vertex stands in the cycles as often as it starts an edge
vertex_counts : (es : List (ℕ × ℕ)) → IsOneToOne es → (v : ℕ) → count_by (λ w. w == v) (concat (cycles es)) ≡ out es v
vertex_counts es one v =
    let all = flat_map round_edges (cycles es) in
    ap (count_by (λ w. w == v)) (sym (from_of-rounds (cycles es))) ∙ count_by-map (λ w. w == v) (λ e. e.0) all
    ∙ sum_by-IsPermutation (λ e. cond (e.0 == v) 1 0) es all (moved es one)

-- so no vertex stands at two places
pub different_vertices : (es : List (ℕ × ℕ)) → IsOneToOne es → AreDifferent (concat (cycles es))
different_vertices es one = different_from_counts (concat (cycles es)) (λ v. omega (arith, vertex_counts es one v, one.once v))

-- and each cycle has one
some_vertex : (n : ℕ) (es : List (ℕ × ℕ)) → All (λ r. 0 < length r) (cycles_within n es)
some_vertex zero es = All-nil (λ (r : List ℕ). 0 < length r)
some_vertex (suc n) [] = All-nil (λ (r : List ℕ). 0 < length r)
some_vertex (suc n) (e ∷ es) =
    let r = follow (length es) e.1 es in
    All-cons (λ (l : List ℕ). 0 < length l) (e.0 ∷ r.0) (cycles_within n r.1) (omega arith) (some_vertex n r.1)

pub not_empty : (es : List (ℕ × ℕ)) → All (λ r. 0 < length r) (cycles es)
not_empty es = some_vertex (length es) es
