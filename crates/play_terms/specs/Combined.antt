-- What an operation on two meshes, one on two outlines, and an extrusion give, and what remeshing does, as far as a script tells it.
use Rattle.std.specs.Prelude.{ℕ}
use Rattle.mesh_terms.specs.Meshes.{Mesh}
use Rattle.outline_terms.specs.Outlines.{Outline}

-- the mesh, how many vertices of each operand were kept, how many crossings, how many cuts were
-- forced, and how many half-edges were prescribed
pub record Combined : Type 0 where
  pub mesh : Mesh
  pub p_kept : ℕ
  pub q_kept : ℕ
  pub crossings : ℕ
  pub forced : ℕ
  pub halfedges : ℕ

-- the mesh, how many planes have triangles, and how many triangles were kept
pub record Remeshed : Type 0 where
  pub mesh : Mesh
  pub planes : ℕ
  pub kept : ℕ

-- the outline, how many vertices of each operand were kept, and how many crossings
pub record Combined2 : Type 0 where
  pub outline : Outline
  pub p_kept : ℕ
  pub q_kept : ℕ
  pub crossings : ℕ

-- the solid, and how many cuts of its filling were forced
pub record Extruded : Type 0 where
  pub mesh : Mesh
  pub forced : ℕ
