-- The faces of one side as source faces: what gives them segments, and which of them bound the triangles at known places.
use Rattle.std.specs.Prelude.{ℕ, ◌+◌, ◌<◌, ℤ, List, [], map, length, get_or}
use Rattle.chain_terms.specs.Chains.{all_edges}
use Rattle.mesh_boolean.specs.Boundaries.{HaveOneBoundary}
use Rattle.mesh_terms.specs.Meshes.{Triple}
use Rattle.side_terms.specs.Sides.{Side}
use Rattle.source_faces.specs.declared.lists.runs.CopyRange.{CopyRange}
use Rattle.source_faces.specs.declared.lists.stands.Stand.{Stand}
use Rattle.source_faces.specs.Agreement.{Ascend, records_of}
use Rattle.source_faces.specs.ListParts.{CanBeSegments, segments_by}
use Rattle.source_faces.specs.Parts.{HaveCopies}

-- the triangles at these places
abbrev pub chosen : List Triple → List ℕ → List Triple
chosen ts places = map (λ t. get_or ts t (0, 0, 0)) places

-- runs of the vertices, and records that ascend and give each face segments; the first face is source face number x
pub record HaveSegments (side : Side) (runs : List CopyRange) (points : List (List ℤ)) (x : ℕ) (stands : List Stand) : Type 0 where
  pub copies : HaveCopies side runs points
  pub ascend : Ascend stands
  pub each : (f : ℕ) → f < length side.triples → CanBeSegments side runs points f (records_of stands (x + f))

-- the triangles at the places of each of the first n faces have the boundary of its segments
abbrev pub HaveBoundariesFrom : Side → List CopyRange → List (List ℤ) → ℕ → List Stand → List Triple → List (List ℕ) → ℕ → Type 0
HaveBoundariesFrom side runs points x stands ts places n =
    (f : ℕ) → f < n → HaveOneBoundary (all_edges (chosen ts (get_or places (x + f) []))) (segments_by side runs points f (records_of stands (x + f)))
