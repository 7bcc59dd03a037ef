-- What is asked of an outcome, whatever made it.
use Rattle.std.specs.Prelude.{◌≡◌, ℕ, ◌<◌, ℤ, List, [], length, get_or}
use Rattle.std.specs.List.{All}
use Rattle.mb_base.specs.declared.op.Op.{Op}
use Rattle.mesh_terms.specs.Meshes.{Mesh, Triple}
use Rattle.side_terms.specs.Sides.{Side}
use Rattle.side_terms.specs.Prescribed.{Numbers, prescribed as copies_of_numbers}
use Rattle.retained_verts.specs.Listed.{ArePrescribed}
use Rattle.source_face_terms.specs.Segments.{source_count}
use Rattle.mesh_boolean.specs.Bounded.{HaveBoundaries}
use Rattle.mesh_boolean.specs.Operation.{Tests, first_side, second_side}
use Rattle.mesh_boolean.specs.Results.{HasOrigins, IsBounded, IsCleanOver, IsLabelled, IsPrescribed, numbers_in}
use Rattle.mesh_boolean.specs.declared.outcome.Outcome.{Outcome}

-- a result of an operation on two meshes, however its faces are filled: its vertices are those prescribed, its triangles are
-- bounded by the segments of their source faces and have their labels, and its mesh is clean
pub record IsSound (t : Tests) (op : Op) (p q : Mesh) (r : Outcome) : Type 0 where
  pub prescribed : IsPrescribed t op p q r
  pub from : HasOrigins r
  pub faces : IsBounded t op p q r
  pub clean : IsCleanOver r.from.items r.mesh.triples
  pub labels : IsLabelled p q r

-- a law: what an operation promises of its outcome makes the outcome sound
abbrev pub ResultsAreSound : Type 0
ResultsAreSound = (t : Tests) (op : Op) (p q : Mesh) (r : Outcome) → IsPrescribed t op p q r → HasOrigins r → IsBounded t op p q r
    → IsCleanOver r.from.items r.mesh.triples → IsLabelled p q r → IsSound t op p q r

-- what of that depends on the numbers of two sides, where us are the triangles over prescribed vertices
pub record AgreesWithSides (op : Op) (p q : Side) (n : Numbers) (r : Outcome) (us : List Triple) : Type 0 where
  pub prescribed : ArePrescribed op p q n r.prescribed
  pub faces : All (λ x. x < source_count p q) r.source.items
  pub bounded : HaveBoundaries p q (copies_of_numbers op p q n) r.source.items us

-- the same for the sides of two meshes and their numbers
abbrev pub AgreesWithMeshes : Tests → Op → Mesh → Mesh → Outcome → List Triple → Type 0
AgreesWithMeshes t op p q r us = AgreesWithSides op (first_side op p) (second_side q) (numbers_in t op p q) r us

-- each vertex is one of the old vertices and lies where that one does
pub record LieThere (points old : List (List ℤ)) (from : List ℕ) : Type 0 where
  pub each : length from ≡ length points
  pub there : (v : ℕ) → v < length points → (get_or from v 0 < length old) × (get_or points v [] ≡ get_or old (get_or from v 0) [])
