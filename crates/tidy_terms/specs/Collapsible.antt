-- Which half-edges can be collapsed so that the surface stays.
use Rattle.std.specs.Prelude.{ℕ, ◌+◌, ◌*◌, ℤ, List, [], Bool, not, ◌&&◌, ◌||◌, ◌==◌, if◌then◌else◌, nat_lt, length, get_or}
use Rattle.std.specs.List.{list_all, position_or_len}
use Rattle.chain_terms.specs.Chains.{all_edges, dir}
use Rattle.chain_terms.specs.Ranks.{start, finish, twin}
use Rattle.chain_terms.specs.Sums.{upto}
use Rattle.mesh_check.specs.Opposites.{third_vertex}
use Rattle.mesh_terms.specs.Meshes.{Triple}
use Rattle.tidy_terms.specs.PointTriples.{same_point}

-- an edge runs between the two vertices
abbrev pub are_joined : List (ℕ × ℕ) → ℕ → ℕ → Bool
are_joined es v w = nat_lt 0 (dir es v w + dir es w v)

-- of n vertices exactly c and d are joined to both a and b
abbrev pub join_only : List (ℕ × ℕ) → ℕ → ℕ → ℕ → ℕ → ℕ → Bool
join_only es n a b c d = list_all (λ v. if are_joined es a v && are_joined es b v then (v == c) || (v == d) else not ((v == c) || (v == d))) (upto n)

-- an edge from a to b, with the third vertices c and d of its two triangles: its ends lie at one point, it is the only one,
-- c and d differ and are what is joined to both ends, by one edge each
abbrev pub can_collapse : List (List ℤ) → List (ℕ × ℕ) → ℕ → ℕ → ℕ → ℕ → Bool
can_collapse points es a b c d =
    same_point (get_or points a []) (get_or points b []) && (dir es a b == 1) && not (c == d) && join_only es (length points) a b c d && (dir es a c == 1)
    && (dir es a d == 1) && (dir es b c == 1) && (dir es b d == 1)

-- the half-edge can be collapsed
abbrev pub is_collapsible : List (List ℤ) → List Triple → ℕ → Bool
is_collapsible points ts h =
    let es = all_edges ts in can_collapse points es (start es h) (finish es h) (third_vertex ts h) (third_vertex ts (twin es h))

-- the least such; where there is none, the number of half-edges
abbrev pub least_collapsible : List (List ℤ) → List Triple → ℕ
least_collapsible points ts = position_or_len (is_collapsible points ts) (upto (3 * length ts))
