-- The laws of the fillings of source faces, as statements.
use Rattle.std.specs.Prelude.{◌≡◌, ℕ, ◌*◌, ◌<◌, ◌≤◌, ℤ, List, length}
use Rattle.mesh_terms.specs.Meshes.{IsAccepted}
use Rattle.side_terms.specs.Sides.{Side}
use Rattle.side_terms.specs.Lists.{Copy}
use Rattle.side_terms.specs.Standing.{IsBalanced, count_all_starts}
use Rattle.source_face_terms.specs.Segments.{all_segments, source_count}
use Rattle.source_face_terms.specs.Assembling.{CanBeAssembled, FillFace, FormLoops}
use Rattle.source_face_terms.specs.Filled.{all_filled, all_triples, filled_face, forced_of}

-- where each list has as many starts as ends, there are as many segments as starts
abbrev pub SegmentsAreCounted : Type 0
SegmentsAreCounted = (p q : Side) (cs : List Copy) (place : ℕ → List ℤ) → IsBalanced p q cs → length (all_segments p q cs place) ≡ count_all_starts p q cs

-- the segments of each source face form loops that can be filled
abbrev pub FacesFormLoops : Type 0
FacesFormLoops = (p q : Side) (cs : List Copy) → CanBeAssembled p q cs → (x : ℕ) → x < source_count p q → FormLoops p q cs x

-- and their filling is one of the face
abbrev pub FacesAreFilled : Type 0
FacesAreFilled = (p q : Side) (cs : List Copy) → CanBeAssembled p q cs → (x : ℕ) → x < source_count p q → FillFace p q cs x (filled_face p q cs x)

-- all fillings together are a closed mesh that uses each copy
abbrev pub FillingsAreAccepted : Type 0
FillingsAreAccepted = (p q : Side) (cs : List Copy) → CanBeAssembled p q cs → IsAccepted (length cs) (all_triples (all_filled p q cs))

-- they have at most five triangles for three starts, and no more of them are forced than there are
abbrev pub FillingsAreFew : Type 0
FillingsAreFew = (p q : Side) (cs : List Copy) → CanBeAssembled p q cs →
    (3 * length (all_triples (all_filled p q cs)) ≤ 5 * count_all_starts p q cs) × (forced_of (all_filled p q cs) ≤ length (all_triples (all_filled p q cs)))
