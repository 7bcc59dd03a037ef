-- One vertex for each fan: fans by their least half-edges, their order, and the mesh that has them as its vertices.
use Rattle.std.specs.Prelude.{ℕ, ◌+◌, ◌*◌, min, ℤ, List, [], ◌∷◌, Bool, ◌==◌, ◌&&◌, map, length, get_or}
use Rattle.std.specs.List.{filter, flat_map, position_or_len}
use Rattle.chain_terms.specs.Chains.{all_edges}
use Rattle.chain_terms.specs.Ranks.{start}
use Rattle.chain_terms.specs.Sums.{upto}
use Rattle.mesh_terms.specs.Halves.{around_times}
use Rattle.mesh_terms.specs.Meshes.{Triple}

-- the half-edges that going around from h meets, h first
abbrev pub met_from : List (ℕ × ℕ) → ℕ → List ℕ
met_from es h = map (λ n. around_times es n h) (upto (length es))

-- the least of m and the members
abbrev pub least : ℕ → List ℕ → ℕ
least m [] = m
least m (x ∷ xs) = min x (least m xs)

-- the least half-edge of the fan of h
abbrev pub least_of_fan : List (ℕ × ℕ) → ℕ → ℕ
least_of_fan es h = least h (met_from es h)

-- h is the least half-edge of a fan at vertex v
abbrev pub is_least_at : List (ℕ × ℕ) → ℕ → ℕ → Bool
is_least_at es v h = (start es h == v) && (least_of_fan es h == h)

-- the least half-edges of the fans at vertex v
abbrev pub fans_at : List (ℕ × ℕ) → ℕ → List ℕ
fans_at es v = filter (is_least_at es v) (upto (length es))

-- the least half-edges of all fans: by the vertex, at one vertex by the half-edge
abbrev pub all_fans : ℕ → List (ℕ × ℕ) → List ℕ
all_fans points es = flat_map (fans_at es) (upto points)

-- the number of the fan of h among all
abbrev pub fan_of : ℕ → List (ℕ × ℕ) → ℕ → ℕ
fan_of points es h = position_or_len (λ g. g == least_of_fan es h) (all_fans points es)

-- the old vertex of each fan
abbrev pub split_from : ℕ → List Triple → List ℕ
split_from points ts = map (start (all_edges ts)) (all_fans points (all_edges ts))

-- for triangle t the values of f at its three half-edges
abbrev pub corner_values : (ℕ → ℕ) → ℕ → Triple
corner_values f t = (f (3 * t), f (3 * t + 1), f (3 * t + 2))

-- the triangles over the fans: where a half-edge started, the number of its fan stands
abbrev pub split_triples : ℕ → List Triple → List Triple
split_triples points ts = map (corner_values (fan_of points (all_edges ts))) (upto (length ts))

-- each fan has the point of its old vertex
abbrev pub split_points : List (List ℤ) → List Triple → List (List ℤ)
split_points points ts = map (λ v. get_or points v []) (split_from (length points) ts)
