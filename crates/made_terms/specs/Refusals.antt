-- Why a solid is not made, or a mesh not moved.
use Rattle.std.specs.Prelude.{ℕ, ℤ, pos, List, [], ◌∷◌, Bool, true, ◌&&◌, ◌||◌, if◌then◌else◌, nat_lt, int_le, length, Option, Some, None}
use Rattle.text_terms.specs.Numbers.{is_on_grid}
use Rattle.mesh_terms.specs.Faults.{Counted, Points, Triangles}
use Rattle.mesh_terms.specs.Limits.{Limits}
use Rattle.mesh_terms.specs.Points.{coordinate_of}
use Rattle.made_terms.specs.Solids.{box_points, box_triples, tetra_points, tetra_triples, prism_points, prism_triples}
use Rattle.made_terms.specs.Lattice.{lattice_points, lattice_triples}

-- the solid has no volume, a coordinate leaves the grid, or a count exceeds its limit
pub data MadeFault : Type 0 where
  Flat : MadeFault
  Outside : MadeFault
  Exceeds : (what : Counted) → (seen : ℕ) → MadeFault

abbrev pub is_grid_point : List ℤ → Bool
is_grid_point p = is_on_grid (coordinate_of p 0) && is_on_grid (coordinate_of p 1) && is_on_grid (coordinate_of p 2)

abbrev pub all_on_grid : List (List ℤ) → Bool
all_on_grid [] = true
all_on_grid (p ∷ ps) = is_grid_point p && all_on_grid ps

-- what a count of points and one of triangles exceed, points asked first
abbrev pub excess : Limits → ℕ → ℕ → Option MadeFault
excess limits points triangles =
    if nat_lt limits.points points then Some (Exceeds Points points)
    else if nat_lt limits.triangles triangles then Some (Exceeds Triangles triangles)
    else None

-- why moved points make no mesh
abbrev pub moved_fault : List (List ℤ) → Option MadeFault
moved_fault points = if all_on_grid points then None else Some Outside

-- why these points and so many triangles make none
abbrev pub made_fault : Limits → List (List ℤ) → ℕ → Option MadeFault
made_fault limits points triangles = if all_on_grid points then excess limits (length points) triangles else Some Outside

-- why these make no solid, which may be flat
abbrev pub solid_fault : Bool → Limits → List (List ℤ) → ℕ → Option MadeFault
solid_fault flat limits points triangles = if flat then Some Flat else made_fault limits points triangles

-- on some axis the low corner is not below the high one
abbrev pub is_flat_box : List ℤ → List ℤ → Bool
is_flat_box low high =
    int_le (coordinate_of high 0) (coordinate_of low 0) || int_le (coordinate_of high 1) (coordinate_of low 1) || int_le (coordinate_of high 2) (coordinate_of low 2)

abbrev pub box_fault : Limits → List ℤ → List ℤ → Option MadeFault
box_fault limits low high = solid_fault (is_flat_box low high) limits (box_points low high) (length box_triples)

abbrev pub tetra_fault : Limits → List ℤ → ℤ → Option MadeFault
tetra_fault limits at size = solid_fault (int_le size (pos 0)) limits (tetra_points at size) (length tetra_triples)

abbrev pub prism_fault : Limits → List ℤ → ℤ → ℤ → Option MadeFault
prism_fault limits at size height = solid_fault (int_le size (pos 0) || int_le height (pos 0)) limits (prism_points at size height) (length prism_triples)

abbrev pub lattice_fault : Limits → ℕ → ℕ → Option MadeFault
lattice_fault limits n seed = made_fault limits (lattice_points n seed) (length (lattice_triples n))
