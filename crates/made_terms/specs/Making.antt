-- The solids that are made: points, triangles, and why there are none.
use Rattle.std.specs.Prelude.{◌≤◌, ℤ, List, Option}
use Rattle.mesh_terms.specs.Labels.{no_labels}
use Rattle.mesh_terms.specs.Limits.{Limits}
use Rattle.mesh_terms.specs.Meshes.{Triple, Mesh}
use Rattle.mesh_terms.specs.Points.{IsOnGrid, IsPoint}
use Rattle.made_terms.specs.Lattice.{lattice_points, lattice_triples}
use Rattle.made_terms.specs.Refusals.{MadeFault, box_fault, tetra_fault, prism_fault, lattice_fault}
use Rattle.made_terms.specs.Solids.{box_points, box_triples, tetra_points, tetra_triples, prism_points, prism_triples}
use Rattle.made_terms.specs.declared.solid.Solid.{Solid}
use Rattle.made_terms.specs.declared.solid.Solid.TheVariants.{Box, Tetra, Prism, Lattice}

-- points and sizes are on the grid, and other numbers in their range
abbrev pub IsSolid : Solid → Type 0
IsSolid (Box low high) = IsPoint low × IsPoint high
IsSolid (Tetra at size) = IsPoint at × IsOnGrid size
IsSolid (Prism at size height) = IsPoint at × IsOnGrid size × IsOnGrid height
IsSolid (Lattice n seed) = (1 ≤ n) × (n ≤ 60) × (seed ≤ 999999)

abbrev pub solid_points : Solid → List (List ℤ)
solid_points (Box low high) = box_points low high
solid_points (Tetra at size) = tetra_points at size
solid_points (Prism at size height) = prism_points at size height
solid_points (Lattice n seed) = lattice_points n seed

abbrev pub solid_triples : Solid → List Triple
solid_triples (Box low high) = box_triples
solid_triples (Tetra at size) = tetra_triples
solid_triples (Prism at size height) = prism_triples
solid_triples (Lattice n seed) = lattice_triples n

-- why the solid is not made
abbrev pub solid_fault : Limits → Solid → Option MadeFault
solid_fault limits (Box low high) = box_fault limits low high
solid_fault limits (Tetra at size) = tetra_fault limits at size
solid_fault limits (Prism at size height) = prism_fault limits at size height
solid_fault limits (Lattice n seed) = lattice_fault limits n seed

-- its labels are empty
abbrev pub solid_mesh : Solid → Mesh
solid_mesh solid = record { points = solid_points solid; triples = solid_triples solid; labels = no_labels (solid_triples solid) }
