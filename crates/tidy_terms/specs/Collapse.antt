-- The collapse of an edge: its start is put for its end, and the triangles that have both go, each with its label.
use Rattle.std.specs.Prelude.{ℕ, List, Bool, cond, not, ◌&&◌, ◌==◌, filter, map}
use Rattle.chain_terms.specs.Chains.{all_edges}
use Rattle.chain_terms.specs.Ranks.{start, finish}
use Rattle.mesh_check.specs.Reduced.{picked}
use Rattle.mesh_terms.specs.Meshes.{Triple, has}

-- a is put for b
abbrev pub merged : ℕ → ℕ → ℕ → ℕ
merged a b v = cond (v == b) a v

-- the triangle has not both
abbrev pub stays : ℕ → ℕ → Triple → Bool
stays a b t = not (has t a && has t b)

-- the triangles without those that have both, a put for b
abbrev pub collapsed : ℕ → ℕ → List Triple → List Triple
collapsed a b ts = map (λ t. (merged a b t.0, merged a b t.1, merged a b t.2)) (filter (stays a b) ts)

-- the triangles after the collapse of a half-edge
abbrev pub collapsed_at : List Triple → ℕ → List Triple
collapsed_at ts h = collapsed (start (all_edges ts) h) (finish (all_edges ts) h) ts

-- the labels of the triangles that stay, and of those after the collapse of a half-edge
abbrev pub labels_left : ℕ → ℕ → List Triple → List (List ℕ) → List (List ℕ)
labels_left a b ts labels = picked (map (stays a b) ts) labels

abbrev pub labels_left_at : List Triple → ℕ → List (List ℕ) → List (List ℕ)
labels_left_at ts h labels = labels_left (start (all_edges ts) h) (finish (all_edges ts) h) ts labels
