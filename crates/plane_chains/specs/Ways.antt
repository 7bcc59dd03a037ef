-- The ways along edges of rims, each with the number of a label, and the chain that they make.
use Rattle.std.specs.Prelude.{ℕ, ℤ, pos, neg_ℤ, List, [], Bool, false, not, ◌==◌, cond, if◌then◌else◌, nat_lt, filter, get_or, length, map}
use Rattle.std.specs.List.{flat_map, list_any}
use Rattle.std.specs.Ordering.{int_eq}
use Rattle.chain_terms.specs.Paths.{round_edges}
use Rattle.chain_terms.specs.Sums.{total, upto}
use Rattle.sheet_terms.specs.Chains.{ChainEdge, same_edge, upward}
use Rattle.sheet_terms.specs.Places.{firsts}
use Rattle.plane_chains.specs.declared.chain.Way.{Way}

-- no way
abbrev pub no_way : Way
no_way = record { from = 0; to = 0; label = 0 }

-- the edge along which a way leads, from its lesser place
abbrev pub way_up : Way → ℕ × ℕ
way_up w = upward (w.from, w.to)

-- 1 up, -1 down, 0 on the spot
abbrev pub step : Way → ℤ
step w = if nat_lt w.from w.to then pos 1 else if nat_lt w.to w.from then neg_ℤ (pos 1) else pos 0

-- what a way counts for a label
abbrev pub counted : ℕ → Way → ℤ
counted k w = cond (w.label == k) (step w) (pos 0)

-- the ways round a rim with a label
abbrev pub way_along : ℕ → (ℕ × ℕ) → Way
way_along label e = record { from = e.0; to = e.1; label = label }

abbrev pub ways_round : List ℕ → ℕ → List Way
ways_round rim label = map (way_along label) (round_edges rim)

-- the numbers below n that have a mark
abbrev pub marked : List Bool → ℕ → List ℕ
marked marks n = filter (λ i. get_or marks i false) (upto n)

-- the ways of the rims that have one
abbrev pub ways_of : List (List ℕ) → List ℕ → List Bool → List Way
ways_of rims labels marks = flat_map (λ i. ways_round (get_or rims i []) (get_or labels i 0)) (marked marks (length rims))

-- what some ways count, by their places in a list, for each of n labels
abbrev pub net_among : ℕ → List Way → List ℕ → List ℤ
net_among n ws is = map (λ k. total (λ i. counted k (get_or ws i no_way)) is) (upto n)

-- how often ways with label k lead along an edge less how often they lead back
abbrev pub net_count : List Way → (ℕ × ℕ) → ℕ → ℤ
net_count ws e k = total (λ w. cond (same_edge (way_up w) e) (counted k w) (pos 0)) ws

-- an edge with those numbers for each of n labels
abbrev pub way_edge : ℕ → List Way → (ℕ × ℕ) → ChainEdge
way_edge n ws e = record { edge = e; counts = map (net_count ws e) (upto n) }

-- the chain of ways with n labels
unfoldable pub way_chain : ℕ → List Way → List ChainEdge
way_chain n ws = filter (λ c. list_any (λ k. not (int_eq k (pos 0))) c.counts) (map (way_edge n ws) (firsts same_edge (map way_up ws)))
