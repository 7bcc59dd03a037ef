-- Each copy is a start of exactly one list and an end of exactly one.
use Rattle.std.proofs.Common.{◌≤◌, ◌≡◌, ℕ, ◌+◌, ◌<◌, Bool, true, false, cond, ◌==◌, pos, List, [], ◌∷◌, ◌++◌, map, count_by, refl, sym, ap, ◌∙◌, arith}
use Rattle.std.specs.List.{concat, flat_map}
use Rattle.std.specs.List.Sorted.{IsPermutation}
use Rattle.std.proofs.lemmas.Int.{ints}
use Rattle.std.proofs.lemmas.List.Sorted.{sum_by-IsPermutation}
use Rattle.chain_terms.specs.Chains.{one_if}
use Rattle.chain_terms.specs.Cycles.{into, out}
use Rattle.chain_terms.specs.Paths.{last_of, path, round_edges}
use Rattle.chain_terms.specs.Sums.{upto}
use Rattle.chain_laws.specs.Counts.{count_by-cons, count_by-map, total-count_by}
use Rattle.chain_laws.specs.Sums.{total-same, total-zero}
use Rattle.chain_laws.proofs.Places.{one_hit_of, total-upto_same, where_same, where_same-apart}
use Rattle.face_loops.proofs.Counting.{times_in}

-- the starts of the edges round a loop are its vertices
firsts : (x : ℕ) (r : List ℕ) (z : ℕ) → map (λ (e : ℕ × ℕ). e.0) (path x r ++ (last_of x r, z) ∷ []) ≡ x ∷ r
firsts x [] z = refl
firsts x (y ∷ r) z = ap (λ l. x ∷ l) (firsts y r z)

seconds : (x : ℕ) (r : List ℕ) (z : ℕ) → map (λ (e : ℕ × ℕ). e.1) (path x r ++ (last_of x r, z) ∷ []) ≡ r ++ z ∷ []
seconds x [] z = refl
seconds x (y ∷ r) z = ap (λ l. y ∷ l) (seconds y r z)

count_append : (p : ℕ → Bool) (xs ys : List ℕ) → count_by p (xs ++ ys) ≡ count_by p xs + count_by p ys
count_append p [] ys = omega (arith)
count_append p (x ∷ xs) ys = omega (arith, count_append p xs ys, count_by-cons p x (xs ++ ys), count_by-cons p x xs)

round_out : (l : List ℕ) (v : ℕ) → out (round_edges l) v ≡ times_in v l
round_out [] v = refl
round_out (x ∷ r) v = sym (count_by-map (λ u. u == v) (λ (e : ℕ × ℕ). e.0) (round_edges (x ∷ r))) ∙ ap (times_in v) (firsts x r x)

round_into : (l : List ℕ) (v : ℕ) → into (round_edges l) v ≡ times_in v l
round_into [] v = refl
round_into (x ∷ r) v =
    sym (count_by-map (λ u. u == v) (λ (e : ℕ × ℕ). e.1) (round_edges (x ∷ r))) ∙ ap (times_in v) (seconds x r x)
    ∙ omega (arith, count_append (λ u. u == v) r (x ∷ []), count_by-cons (λ u. u == v) x [], count_by-cons (λ u. u == v) x r)

pair_append : (p : (ℕ × ℕ) → Bool) (xs ys : List (ℕ × ℕ)) → count_by p (xs ++ ys) ≡ count_by p xs + count_by p ys
pair_append p [] ys = omega (arith)
pair_append p (x ∷ xs) ys = omega (arith, pair_append p xs ys, count_by-cons p x (xs ++ ys), count_by-cons p x xs)

pub loops_out : (loops : List (List ℕ)) (v : ℕ) → out (flat_map round_edges loops) v ≡ times_in v (concat loops)
loops_out [] v = refl
loops_out (l ∷ ls) v = omega (arith, pair_append (λ e. e.0 == v) (round_edges l) (flat_map round_edges ls), round_out l v, loops_out ls v, count_append (λ u. u == v) l (concat ls))

loops_into : (loops : List (List ℕ)) (v : ℕ) → into (flat_map round_edges loops) v ≡ times_in v (concat loops)
loops_into [] v = refl
loops_into (l ∷ ls) v
    = omega (arith, pair_append (λ e. e.1 == v) (round_edges l) (flat_map round_edges ls), round_into l v, loops_into ls v, count_append (λ u. u == v) l (concat ls))

-- a number below n stands once among 0 to n - 1
pub once_below : (n v : ℕ) → v < n → times_in v (upto n) ≡ 1
once_below n v low =
    let one = one_hit_of (λ x. pos 1) v n low in
    let same = total-same (λ x. pos (one_if (x == v))) (λ x. where_same x v (pos 1)) (λ x. by (x == v)) (upto n) in
    omega (arith, ints, total-count_by (λ x. x == v) (upto n), same, one)
  where
    by : (b : Bool) → pos (one_if b) ≡ cond b (pos 1) (pos 0)
    by true = refl
    by false = refl

-- and one from n on does not
pub none_past : (n v : ℕ) → n ≤ v → times_in v (upto n) ≡ 0
none_past n v past =
    let same = total-same (λ x. pos (one_if (x == v))) (λ x. where_same x v (pos 1)) (λ x. by (x == v)) (upto n) in
    let none = total-upto_same (λ x. where_same x v (pos 1)) (λ x. pos 0) n (λ x below. where_same-apart x v (pos 1) (λ e. omega (arith, e, below, past))) in
    omega (arith, ints, total-count_by (λ x. x == v) (upto n), same, none, total-zero (upto n))
  where
    by : (b : Bool) → pos (one_if b) ≡ cond b (pos 1) (pos 0)
    by true = refl
    by false = refl

-- so each vertex starts one edge and ends one
pub one_out : (n : ℕ) (loops : List (List ℕ)) → IsPermutation (upto n) (concat loops) → (v : ℕ) → v < n → out (flat_map round_edges loops) v ≡ 1
one_out n loops moved v low = loops_out loops v ∙ sum_by-IsPermutation (λ x. cond (x == v) 1 0) (upto n) (concat loops) moved ∙ once_below n v low

pub one_into : (n : ℕ) (loops : List (List ℕ)) → IsPermutation (upto n) (concat loops) → (v : ℕ) → v < n → into (flat_map round_edges loops) v ≡ 1
one_into n loops moved v low = loops_into loops v ∙ sum_by-IsPermutation (λ x. cond (x == v) 1 0) (upto n) (concat loops) moved ∙ once_below n v low
