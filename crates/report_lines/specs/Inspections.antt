-- What an inspection says of a mesh, which its line tells.
use Rattle.std.specs.Prelude.{◌≡◌, ℕ}
use Rattle.inspection_terms.specs.Inspected.{doubled_count, flat_count, high_corner, low_corner, touching_count}
use Rattle.mesh_terms.specs.Meshes.{Mesh}
use Rattle.self_cuts.specs.declared.inspection.Inspection.{Inspection}

-- each number is that of the mesh, of which so many pairs of triangles cut one another
pub record IsInspectionOf (m : Mesh) (n : ℕ) (seen : Inspection) : Type 0 where
  pub low : seen.low ≡ low_corner m.points
  pub high : seen.high ≡ high_corner m.points
  pub flat : seen.flat ≡ flat_count m
  pub doubled : seen.doubled ≡ doubled_count m.points
  pub touching : seen.touching ≡ touching_count m
  pub cuts : seen.cuts ≡ n
