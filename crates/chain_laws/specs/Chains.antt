-- Laws of chains of directed edges: odd functions, closed chains, equal boundaries.
use Rattle.std.specs.Prelude.{◌≡◌, ℕ, ◌+◌, ◌<◌, ℤ, pos, neg_ℤ, ◌-ℤ◌, List, [], ◌∷◌, ◌++◌, map, true, false, Bool, cond, ◌==◌, ◌&&◌, count_by}
use Rattle.std.specs.Bool.{Decides}
use Rattle.std.specs.List.{Contains}
use Rattle.std.specs.List.Sorted.{IsPermutation}
use Rattle.std.proofs.Common.{arith, ap, refl, sym, subst, ◌∙◌}
use Rattle.std.proofs.lemmas.Int.{ints}
use Rattle.std.proofs.lemmas.Bool.{and_parts, eqb-true, eq-eqb, and_from}
use Rattle.std.proofs.lemmas.List.Sorted.{sum_by-IsPermutation}
use Rattle.chain_terms.specs.Sums.{total}
use Rattle.chain_terms.specs.Odd.{IsOdd, along, turned_edge, backward, SameChain}
use Rattle.chain_terms.specs.Chains.{is_edge, one_if, dir, IsClosed, boundary}
use Rattle.chain_laws.specs.Sums.{total-append, total-map}
use Rattle.chain_laws.specs.Counts.{count_by-cons, same_counts}
use Rattle.chain_laws.specs.Firsts.{counted, passing}

-- an edge that runs from a to b is that edge
pub edge_is : (e : ℕ × ℕ) (a b : ℕ) → is_edge e a b ≡ true → (e.0 ≡ a) × (e.1 ≡ b)
edge_is e a b h = let p = and_parts (e.0 == a) (e.1 == b) h in (eqb-true e.0 a p.0, eqb-true e.1 b p.1)

-- the edge from a to b runs from a to b
pub is_self : (a b : ℕ) → is_edge (a, b) a b ≡ true
is_self a b = and_from (a == a) (b == b) (eq-eqb a a refl) (eq-eqb b b refl)

-- a test whether two edges are the same
abbrev pub same_edge : (ℕ × ℕ) → (ℕ × ℕ) → Bool
same_edge d e = is_edge e d.0 d.1

-- it decides
pub edge_decides : (d e : ℕ × ℕ) → Decides (same_edge d e) (d ≡ e)
edge_decides d e = (
  (λ h. let p = edge_is e d.0 d.1 h in ap (λ x. (x, d.1)) (sym p.0) ∙ ap (λ y. (e.0, y)) (sym p.1)),
  (λ h. ap (same_edge d) (sym h) ∙ is_self d.0 d.1),
)

-- both tests hold, in either order
pub and_turned : (x y : Bool) → (x && y) ≡ (y && x)
and_turned true true = refl
and_turned true false = refl
and_turned false true = refl
and_turned false false = refl

-- a turned edge runs from a to b where the edge runs from b to a
pub edge_turned : (e : ℕ × ℕ) (a b : ℕ) → one_if (is_edge (turned_edge e) a b) ≡ one_if (is_edge e b a)
edge_turned e a b = ap one_if (and_turned (e.1 == a) (e.0 == b))

-- how often an edge occurs is std's count
pub dir-count_by : (es : List (ℕ × ℕ)) (a b : ℕ) → dir es a b ≡ count_by (same_edge (a, b)) es
dir-count_by [] a b = refl
dir-count_by (e ∷ es) a b = omega (arith, dir-count_by es a b, count_by-cons (same_edge (a, b)) e es)

-- how often an edge occurs in two chains, one after the other
pub dir-append : (es ms : List (ℕ × ℕ)) (a b : ℕ) → dir (es ++ ms) a b ≡ dir es a b + dir ms a b
dir-append [] ms a b = omega arith
dir-append (e ∷ es) ms a b = omega (arith, dir-append es ms a b)

-- in another order an edge occurs as often
pub dir-permutation : (es ms : List (ℕ × ℕ)) → IsPermutation es ms → (a b : ℕ) → dir ms a b ≡ dir es a b
dir-permutation es ms moved a b = omega (arith, dir-count_by es a b, dir-count_by ms a b, sum_by-IsPermutation (λ e. cond (same_edge (a, b) e) 1 0) es ms moved)

-- an edge of the chain occurs
pub dir_some : (es : List (ℕ × ℕ)) (a b : ℕ) → Contains es (a, b) → 0 < dir es a b
dir_some es a b inside = omega (arith, dir-count_by es a b, counted (same_edge (a, b)) (a, b) es inside (is_self a b))

-- an edge that occurs is one of the chain
pub dir_contains : (es : List (ℕ × ℕ)) (a b : ℕ) → 0 < dir es a b → Contains es (a, b)
dir_contains es a b some =
    let found = passing (same_edge (a, b)) es (omega (arith, some, dir-count_by es a b)) in
    subst (Contains es) (sym ((edge_decides (a, b) found.member).0 found.passes)) found.inside

-- in the turned chain an edge occurs as often as its reverse did
pub dir-backward : (es : List (ℕ × ℕ)) (a b : ℕ) → dir (backward es) a b ≡ dir es b a
dir-backward [] a b = refl
dir-backward (e ∷ es) a b = omega (arith, dir-backward es a b, edge_turned e a b)

-- chains in which each edge occurs equally often have the same sums
pub total-same_dir : (g : (ℕ × ℕ) → ℤ) (es ms : List (ℕ × ℕ)) → ((a b : ℕ) → dir es a b ≡ dir ms a b) → total g es ≡ total g ms
total-same_dir g es ms h =
    same_counts same_edge edge_decides g es ms (λ e. omega (arith, dir-count_by es e.0 e.1, dir-count_by ms e.0 e.1, h e.0 e.1))

-- the sum of an odd function over the turned chain is negated
pub total-backward : (f : ℕ → ℕ → ℤ) → IsOdd f → (es : List (ℕ × ℕ)) → total (along f) (backward es) ≡ neg_ℤ (total (along f) es)
total-backward f odd [] = refl
total-backward f odd (e ∷ es) = omega (arith, ints, odd.turns e.0 e.1, total-backward f odd es)

-- an odd function adds up to nothing over a closed chain
pub odd_sum : (f : ℕ → ℕ → ℤ) → IsOdd f → (es : List (ℕ × ℕ)) → IsClosed es → total (along f) es ≡ pos 0
odd_sum f odd es closed =
    let r = total-same_dir (along f) es (backward es) (λ a b. omega (arith, closed a b, dir-backward es a b)) in
    omega (arith, ints, r, total-backward f odd es)

-- chains with the same boundary have the same sums of every odd function
pub same_boundary : (es ms : List (ℕ × ℕ)) → ((a b : ℕ) → boundary es a b ≡ boundary ms a b) → SameChain es ms
same_boundary es ms same f odd =
    let closed : IsClosed (es ++ backward ms) =
    λ a b. omega (arith, ints, same a b, dir-append es (backward ms) a b, dir-append es (backward ms) b a, dir-backward ms a b, dir-backward ms b a) in
    omega (arith, ints, odd_sum f odd (es ++ backward ms) closed, total-append (along f) es (backward ms), total-backward f odd ms)

-- how many more of the edges c→d, 0 or 1, run from a to b than back
abbrev pub unit_edge : ℕ → ℕ → ℕ → ℕ → ℤ
unit_edge a b c d = pos (one_if (is_edge (c, d) a b)) -ℤ pos (one_if (is_edge (c, d) b a))

-- that is odd in c and d
pub unit_edge_odd : (a b : ℕ) → IsOdd (unit_edge a b)
unit_edge_odd a b = record { turns = λ c d. omega (arith, ints, edge_turned (c, d) a b, edge_turned (c, d) b a) }

-- the boundary is a sum of an odd function
pub boundary_sum : (es : List (ℕ × ℕ)) (a b : ℕ) → total (along (unit_edge a b)) es ≡ boundary es a b
boundary_sum [] a b = refl
boundary_sum (e ∷ es) a b = omega (arith, ints, boundary_sum es a b)

-- chains with the same sums of every odd function have the same boundary
pub boundary_same : (es ms : List (ℕ × ℕ)) → SameChain es ms → (a b : ℕ) → boundary es a b ≡ boundary ms a b
boundary_same es ms same a b = sym (boundary_sum es a b) ∙ same (unit_edge a b) (unit_edge_odd a b) ∙ boundary_sum ms a b

-- a chain is closed where every odd function adds up to nothing
pub closed_from_sums : (es : List (ℕ × ℕ)) → SameChain es [] → IsClosed es
closed_from_sums es same a b = let e = boundary_same es [] same a b in omega (arith, ints, e)

-- over a closed chain every odd function adds up as over no edge
pub sums_from_closed : (es : List (ℕ × ℕ)) → IsClosed es → SameChain es []
sums_from_closed es closed f odd = odd_sum f odd es closed

-- chains with the same sums, one after the other
pub same_chain-append : (es ms fs ns : List (ℕ × ℕ)) → SameChain es ms → SameChain fs ns → SameChain (es ++ fs) (ms ++ ns)
same_chain-append es ms fs ns h k f odd = omega (arith, ints, h f odd, k f odd, total-append (along f) es fs, total-append (along f) ms ns)

-- a chain with the sums of a closed one is closed
pub closed_same : (es ms : List (ℕ × ℕ)) → SameChain es ms → IsClosed ms → IsClosed es
closed_same es ms h closed = closed_from_sums es (λ f odd. h f odd ∙ odd_sum f odd ms closed)

-- a closed chain after a closed chain is closed
pub closed-append : (es ms : List (ℕ × ℕ)) → IsClosed es → IsClosed ms → IsClosed (es ++ ms)
closed-append es ms h k a b = omega (arith, h a b, k a b, dir-append es ms a b, dir-append es ms b a)

-- the turned chain of a closed one is closed
pub closed-backward : (es : List (ℕ × ℕ)) → IsClosed es → IsClosed (backward es)
closed-backward es closed a b = omega (arith, closed a b, dir-backward es a b, dir-backward es b a)

-- the edge with its vertices renamed
abbrev pub renamed : (ℕ → ℕ) → (ℕ × ℕ) → ℕ × ℕ
renamed r e = (r e.0, r e.1)

-- an odd function of renamed vertices is odd
pub odd-renamed : (r : ℕ → ℕ) (f : ℕ → ℕ → ℤ) → IsOdd f → IsOdd (λ a b. f (r a) (r b))
odd-renamed r f odd = record { turns = λ a b. odd.turns (r a) (r b) }

-- chains with the same sums have that under every renaming
pub same_chain-renamed : (r : ℕ → ℕ) (es ms : List (ℕ × ℕ)) → SameChain es ms → SameChain (map (renamed r) es) (map (renamed r) ms)
same_chain-renamed r es ms h f odd =
    total-map (along f) (renamed r) es ∙ h (λ a b. f (r a) (r b)) (odd-renamed r f odd) ∙ sym (total-map (along f) (renamed r) ms)

-- a renamed closed chain is closed
pub closed-renamed : (r : ℕ → ℕ) (es : List (ℕ × ℕ)) → IsClosed es → IsClosed (map (renamed r) es)
closed-renamed r es closed = closed_from_sums (map (renamed r) es) (same_chain-renamed r es [] (sums_from_closed es closed))
