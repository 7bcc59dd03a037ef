-- The outcome of an operation, whose prescribed vertices are those of geometry.
use Rattle.std.specs.Prelude.{◌≡◌, List, map}
use Rattle.mb_base.specs.declared.op.Op.{Op}
use Rattle.mesh_boolean.specs.declared.outcome.Outcome.{Outcome}
use Rattle.mesh_terms.specs.Meshes.{Mesh}
use Rattle.side_terms.specs.Lists.{Copy}
use Rattle.geometric_laws.specs.Geometric.{IsGeometric}

-- its prescribed vertices, in order, are copies of which each vertex in no triangle of the other mesh has as many as geometry says
pub record IsGeometricOutcome (op : Op) (p q : Mesh) (r : Outcome) : Type 0 where
  pub copies : List Copy
  pub origins : r.prescribed.origins.items ≡ map (λ c. c.origin) copies
  pub points : r.prescribed.points.items ≡ map (λ c. c.point) copies
  pub geometric : IsGeometric op p q copies
