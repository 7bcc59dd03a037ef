-- A lattice of boxes, n along each axis, of four sizes.
use Rattle.std.specs.Prelude.{ℕ, ◌+◌, ◌*◌, ◌%◌, pos, ℤ, List, map}
use Rattle.std.specs.List.{flat_map}
use Rattle.chain_terms.specs.Sums.{upto}
use Rattle.mesh_terms.specs.Meshes.{Triple}
use Rattle.made_terms.specs.Solids.{point, box_points, box_triples}

-- how long the box at i, j, k is on each side
abbrev pub lattice_side : ℕ → ℕ → ℕ → ℕ → ℕ
lattice_side seed i j k = 10 * (1 + (i + 2 * j + 3 * k + seed) % 4)

-- the points of that box, 100 steps from the next ones
abbrev pub lattice_box : ℕ → ℕ → ℕ → ℕ → List (List ℤ)
lattice_box seed i j k =
    let side = lattice_side seed i j k in
    box_points (point (pos (100 * i)) (pos (100 * j)) (pos (100 * k))) (point (pos (100 * i + side)) (pos (100 * j + side)) (pos (100 * k + side)))

-- the points of the boxes at i, j and k, for k below n
abbrev pub lattice_row : ℕ → ℕ → ℕ → ℕ → List (List ℤ)
lattice_row n seed i j = flat_map (lattice_box seed i j) (upto n)

-- for j and k below n
abbrev pub lattice_layer : ℕ → ℕ → ℕ → List (List ℤ)
lattice_layer n seed i = flat_map (lattice_row n seed i) (upto n)

-- for i, j and k below n, k fastest
abbrev pub lattice_points : ℕ → ℕ → List (List ℤ)
lattice_points n seed = flat_map (lattice_layer n seed) (upto n)

-- a triangle over points that stand so much further in the list
abbrev pub further : ℕ → Triple → Triple
further base t = (base + t.0, base + t.1, base + t.2)

-- the triangles of so many boxes, over the points of one after the other
abbrev pub boxes_triples : ℕ → List Triple
boxes_triples n = flat_map (λ b. map (further (8 * b)) box_triples) (upto n)

abbrev pub lattice_triples : ℕ → List Triple
lattice_triples n = boxes_triples (n * n * n)
