-- The text of a mesh in OBJ, and the suffix of its name.
use Rattle.std.specs.Prelude.{ℕ, ◌+◌, ℤ, List, [], ◌∷◌, ◌++◌, Bool, codes, decimal}
use Rattle.std.specs.List.{flat_map}
use Rattle.text_terms.specs.Names.{has_suffix}
use Rattle.text_terms.specs.Written.{line_of, three_numbers}
use Rattle.mesh_terms.specs.Meshes.{Triple}
use Rattle.format_terms.specs.ObjLabels.{label_change}

-- v X Y Z
abbrev pub point_line : ℕ → List ℤ → List ℕ
point_line k p = line_of (codes "v " ++ three_numbers k p)

-- f A B C, counted from 1
abbrev pub face_line : Triple → List ℕ
face_line t = line_of (codes "f " ++ decimal (t.0 + 1) ++ codes " " ++ decimal (t.1 + 1) ++ codes " " ++ decimal (t.2 + 1))

-- the lines of triangles with their labels, after one of the label before: a label stands before the first triangle of each run
abbrev pub face_lines : List ℕ → List (List ℕ) → List Triple → List ℕ
face_lines before labels [] = []
face_lines before [] (t ∷ ts) = label_change before [] ++ (face_line t ++ face_lines [] [] ts)
face_lines before (l ∷ ls) (t ∷ ts) = label_change before l ++ (face_line t ++ face_lines l ls ts)

abbrev pub obj_text : ℕ → List (List ℤ) → List Triple → List (List ℕ) → List ℕ
obj_text k points ts labels = flat_map (point_line k) points ++ face_lines [] labels ts

abbrev pub is_obj : List ℕ → Bool
is_obj name = has_suffix (codes ".obj") name
