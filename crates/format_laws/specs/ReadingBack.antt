-- The text of a mesh reads back, as statements.
use Rattle.std.specs.Prelude.{◌≡◌, ℕ, ◌≤◌, ℤ, List, length, Ok}
use Rattle.mesh_terms.specs.Labels.{AreLabels}
use Rattle.mesh_terms.specs.Limits.{Limits, IsLawful}
use Rattle.mesh_terms.specs.Meshes.{Triple, Soup}
use Rattle.format_terms.specs.Obj.{obj}
use Rattle.format_terms.specs.ObjWritten.{obj_text}
use Rattle.format_laws.specs.Within.{IsWithin}

-- the text under k digits reads as the points, triples and labels, with no point dropped, and is not longer than a file may be
pub record ReadsBack (k : ℕ) (limits : Limits) (points : List (List ℤ)) (ts : List Triple) (labels : List (List ℕ)) : Type 0 where
  pub reads : obj k limits (obj_text k points ts labels) ≡ Ok (record { points = points; triples = ts; labels = labels; unused = 0 })
  pub fits : length (obj_text k points ts labels) ≤ limits.file_bytes

-- under lawful limits a mesh within them reads back, whatever the digits
abbrev pub MeshesReadBack : Type 0
MeshesReadBack =
    (k : ℕ) → k ≤ 6 → (limits : Limits) → IsLawful limits → (points : List (List ℤ)) (ts : List Triple) (labels : List (List ℕ)) →
    IsWithin limits points ts → AreLabels (length ts) labels →
    ReadsBack k limits points ts labels

-- what is read of a file under lawful limits is a mesh within them, with a label for each triangle
abbrev pub FilesGiveMeshes : Type 0
FilesGiveMeshes =
    (k : ℕ) (limits : Limits) → IsLawful limits → (bytes : List ℕ) (soup : Soup) → obj k limits bytes ≡ Ok soup →
    IsWithin limits soup.points soup.triples × AreLabels (length soup.triples) soup.labels

-- so its text reads back, with the points that were not dropped
abbrev pub ReadMeshesReadBack : Type 0
ReadMeshesReadBack =
    (k : ℕ) → k ≤ 6 → (limits : Limits) → IsLawful limits → (bytes : List ℕ) (soup : Soup) → obj k limits bytes ≡ Ok soup →
    ReadsBack k limits soup.points soup.triples soup.labels
