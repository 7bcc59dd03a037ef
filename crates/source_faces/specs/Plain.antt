-- Faces in no lists but those of their vertices: their filling is copies of them.
use Rattle.std.specs.Prelude.{◌≡◌, ℕ, ◌+◌, ◌<◌, ℤ, List, [], true, length, get_or}
use Rattle.side_terms.specs.Sides.{IsSide, Side}
use Rattle.source_face_terms.specs.Segments.{vertex_point}
use Rattle.source_faces.specs.declared.lists.runs.CopyRange.{CopyRange}
use Rattle.source_faces.specs.Agreement.{AreInOrder}
use Rattle.source_faces.specs.ListParts.{AreRuns, no_run}
use Rattle.source_faces.specs.Adding.{are_equal_runs, face_copies, filled_by}

-- the copies of a side's vertices lie where these do
pub record LieAtVertices (side : Side) (runs : List CopyRange) (points : List (List ℤ)) : Type 0 where
  pub lies : (v i : ℕ) → v < length side.corners → i < (get_or runs v no_run).count →
      get_or points ((get_or runs v no_run).first + i) [] ≡ vertex_point side v

-- where a face has no records and its vertices are prescribed one number of times, its filling is copies of it
abbrev pub PlainFacesAreCopied : Type 0
PlainFacesAreCopied =
    (side : Side) (runs : List CopyRange) (points : List (List ℤ)) (k : ℕ) → IsSide side → AreRuns side (length points) runs →
    AreInOrder k runs → LieAtVertices side runs points →
    (f : ℕ) → f < length side.triples → are_equal_runs runs (get_or side.triples f (0, 0, 0)) ≡ true →
    filled_by side runs points f [] ≡ face_copies side runs f
