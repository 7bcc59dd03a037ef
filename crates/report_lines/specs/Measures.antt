-- The measures of a mesh, which its line tells.
use Rattle.std.specs.Prelude.{◌≡◌, length}
use Rattle.chain_terms.specs.Chains.{all_edges}
use Rattle.component_terms.specs.Counts.{component_count}
use Rattle.mesh_terms.specs.Euler.{euler_of}
use Rattle.mesh_terms.specs.Meshes.{Mesh}
use Rattle.mesh_terms.specs.Volume.{volume6_of}
use Rattle.mesh_make.specs.declared.figures.Measure.{Measure}

-- each number is that of the mesh
pub record IsMeasureOf (m : Mesh) (measure : Measure) : Type 0 where
  pub points : measure.points ≡ length m.points
  pub triangles : measure.triangles ≡ length m.triples
  pub components : measure.components ≡ component_count (length m.points) (all_edges m.triples)
  pub euler : measure.euler ≡ euler_of (length m.points) (length m.triples)
  pub volume6 : measure.volume6 ≡ volume6_of m.points m.triples
