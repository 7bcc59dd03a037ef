-- Small meshes, their components counted by the definition.
use Rattle.std.proofs.Common.{◌≡◌, ℕ, ◌+◌, List, [], ◌∷◌, ◌++◌, map, refl}
use Rattle.chain_terms.specs.Chains.{all_edges}
use Rattle.component_terms.specs.Counts.{component_count}

-- the triangles of a box
abbrev box : List (ℕ × ℕ × ℕ)
box = (0, 3, 1) ∷ (0, 2, 3) ∷ (4, 5, 7) ∷ (4, 7, 6) ∷ (0, 1, 4) ∷ (1, 5, 4) ∷ (1, 3, 7) ∷ (1, 7, 5) ∷ (3, 2, 6) ∷ (3, 6, 7) ∷ (0, 4, 6) ∷ (0, 6, 2) ∷ []

-- that box and another, whose first vertex has that number
abbrev two_boxes : ℕ → List (ℕ × ℕ × ℕ)
two_boxes first = box ++ map (λ (t : ℕ × ℕ × ℕ). (first + t.0, first + t.1, first + t.2)) box

-- without vertices there are none
none : component_count 0 [] ≡ 0
none = refl

-- each vertex without an edge is one
lonely : component_count 3 [] ≡ 3
lonely = refl

-- edges in any order join the ends of a path, whichever way they run
path : component_count 4 ((3, 2) ∷ (0, 1) ∷ (2, 1) ∷ []) ≡ 1
path = refl

-- two triangles with one vertex in common
joined_triangles : component_count 5 (all_edges ((4, 2, 0) ∷ (3, 1, 0) ∷ [])) ≡ 1
joined_triangles = refl

-- a box
one_box : component_count 8 (all_edges box) ≡ 1
one_box = refl

-- two boxes apart
boxes_apart : component_count 16 (all_edges (two_boxes 8)) ≡ 2
boxes_apart = refl

-- two boxes with one vertex in common
joined_boxes : component_count 15 (all_edges (two_boxes 7)) ≡ 1
joined_boxes = refl
