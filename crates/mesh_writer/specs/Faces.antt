-- The lines of the triangle at a place.
use Rattle.std.specs.Prelude.{ℕ, zero, suc, List, [], ◌++◌, get_or}
use Rattle.mesh_terms.specs.Labels.{label_at}
use Rattle.mesh_terms.specs.Meshes.{Triple}
use Rattle.format_terms.specs.ObjLabels.{label_change}
use Rattle.format_terms.specs.ObjWritten.{face_line}

-- the label of the triangle before; before the first it is empty
abbrev pub label_before : List (List ℕ) → ℕ → List ℕ
label_before labels zero = []
label_before labels (suc t) = label_at labels t

-- the line of its label, where this is not that of the triangle before, and its own
abbrev pub lines_at : List (List ℕ) → List Triple → ℕ → List ℕ
lines_at labels ts t = label_change (label_before labels t) (label_at labels t) ++ face_line (get_or ts t (0, 0, 0))
