-- What geometry says of the winding number of a corner in a side.
use Rattle.std.specs.Prelude.{◌≡◌, ◌<◌, ℕ, ℤ, pos, List, get_or, length}
use Rattle.mb_base.specs.declared.point.Corner.{Corner}
use Rattle.plane_laws.specs.Decisions.{Vector}
use Rattle.side_terms.specs.Corners.{corner_at}
use Rattle.side_terms.specs.Sides.{Side}
use Rattle.exact_kernels.specs.Exact.{position}
use Rattle.solid_terms.specs.Solids.{IsClearOfAll, IsOffFaces, solid_winding}
use Rattle.solid_laws.specs.Apex.{apex_of}
use Rattle.solid_laws.specs.Windings.{places_of}

-- the number is how often the side winds round the corner, seen from any apex of which the corner is clear; and there is one where the corner lies in no closed face
pub record IsSolid (c : Corner) (side : Side) (n : ℤ) : Type 0 where
  pub from_each : (o : Vector) → IsClearOfAll (position c) o (places_of side) side.triples → n ≡ solid_winding (position c) o (places_of side) side.triples
  pub off_faces : IsOffFaces (position c) (places_of side) side.triples → IsClearOfAll (position c) (apex_of c) (places_of side) side.triples

-- so are the numbers of all corners of one side in the other
abbrev pub AreSolid : Side → Side → List ℤ → Type 0
AreSolid vertices faces ws = (v : ℕ) → v < length vertices.corners → IsSolid (corner_at vertices.corners v) faces (get_or ws v (pos 0))
