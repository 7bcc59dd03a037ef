-- The points and triangles of an OBJ file with their labels, or its first fault.
use Rattle.std.specs.Prelude.{ℕ, ◌+◌, ℤ, List, [], ◌∷◌, ◌++◌, ◌||◌, if◌then◌else◌, nat_lt, length, map, replicate, take, codes, bytes_eq, Result, Ok, Err}
use Rattle.std.specs.List.{list_any}
use Rattle.text_terms.specs.Lines.{words_of, before_comment, joined_lines, without_mark}
use Rattle.text_terms.specs.Coordinates.{coordinate}
use Rattle.text_terms.specs.FirstFault.{then_read, read_each, each_read, on_line}
use Rattle.mesh_terms.specs.Faults.{Points, Triangles, Fault, Bad, Over}
use Rattle.mesh_terms.specs.Limits.{Limits}
use Rattle.mesh_terms.specs.Meshes.{Triple, Soup, soup_of}
use Rattle.format_terms.specs.ObjFaces.{item_vertex, face_fan, has_repeat}
use Rattle.format_terms.specs.ObjLabels.{label_of}

-- what the lines so far gave, and the label of the faces to come
pub record Gathered : Type 0 where
  pub points : List (List ℤ)
  pub triples : List Triple
  pub labels : List (List ℕ)
  pub label : List ℕ

abbrev pub nothing_gathered : Gathered
nothing_gathered = record { points = []; triples = []; labels = []; label = [] }

-- a point is added where the limit allows it
abbrev pub with_point : Limits → Gathered → List ℤ → Result Gathered Fault
with_point limits s p =
    let seen = length s.points + 1 in
    if nat_lt limits.points seen then Err (Over Points seen)
    else Ok (record { points = s.points ++ p ∷ []; triples = s.triples; labels = s.labels; label = s.label })

-- all triangles of a face are added with the present label where the limit allows it
abbrev pub with_triples : Limits → Gathered → List Triple → Result Gathered Fault
with_triples limits s ts =
    let seen = length s.triples + length ts in
    if nat_lt limits.triangles seen then Err (Over Triangles seen)
    else Ok (record { points = s.points; triples = s.triples ++ ts; labels = s.labels ++ replicate (length ts) s.label; label = s.label })

-- the coordinates of the words after v: three to seven, of which the first three are x, y, z; else 2
abbrev pub point_coordinates : ℕ → ℕ → List (List ℕ) → Result (List ℤ) Fault
point_coordinates k n words =
    if nat_lt (length words) 3 || nat_lt 7 (length words) then Err (Bad n 2)
    else on_line n (each_read (coordinate k) (take 3 words))

abbrev pub obj_point : ℕ → Limits → ℕ → Gathered → List (List ℕ) → Result Gathered Fault
obj_point k limits n s words = then_read (point_coordinates k n words) (with_point limits s)

-- the vertices of the words after f, of so many points: three or more items; else 5
abbrev pub face_vertices : ℕ → ℕ → List (List ℕ) → Result (List ℕ) Fault
face_vertices count n words =
    if nat_lt (length words) 3 then Err (Bad n 5)
    else on_line n (each_read (item_vertex count) words)

-- 7 where two items name one vertex
abbrev pub obj_triples : Limits → ℕ → Gathered → List ℕ → Result Gathered Fault
obj_triples limits n s vs = if has_repeat vs then Err (Bad n 7) else with_triples limits s (face_fan vs)

abbrev pub obj_face : Limits → ℕ → Gathered → List (List ℕ) → Result Gathered Fault
obj_face limits n s words = then_read (face_vertices (length s.points) n words) (obj_triples limits n s)

-- the faces to come have another label
abbrev pub with_label : List ℕ → Gathered → Gathered
with_label label s = record { points = s.points; triples = s.triples; labels = s.labels; label = label }

-- the first words of the lines that are passed over
abbrev pub passed_over : List (List ℕ)
passed_over = codes "vt" ∷ codes "vn" ∷ codes "o" ∷ codes "s" ∷ codes "usemtl" ∷ codes "mtllib" ∷ codes "l" ∷ codes "p" ∷ []

-- the words of line n; 1 where the first is none of these
abbrev pub obj_line : ℕ → Limits → ℕ → List (List ℕ) → Gathered → Result Gathered Fault
obj_line k limits n [] s = Ok s
obj_line k limits n (w ∷ ws) s =
    if bytes_eq w (codes "v") then obj_point k limits n s ws
    else if bytes_eq w (codes "f") then obj_face limits n s ws
    else if bytes_eq w (codes "g") then Ok (with_label (label_of ws) s)
    else if list_any (bytes_eq w) passed_over then Ok s
    else Err (Bad n 1)

-- the words of each line up to a comment, with the line's number
abbrev pub word_lines : List (ℕ × List ℕ) → List (ℕ × List (List ℕ))
word_lines ls = map (λ l. (l.0, before_comment (words_of l.1))) ls

-- line after line
abbrev pub obj_lines : ℕ → Limits → List (ℕ × List (List ℕ)) → Gathered → Result Gathered Fault
obj_lines k limits ls s = read_each (λ l t. obj_line k limits l.0 l.1 t) ls s

-- after the last line the points that no triangle uses are dropped and counted
abbrev pub obj : ℕ → Limits → List ℕ → Result Soup Fault
obj k limits bytes =
    then_read (obj_lines k limits (word_lines (joined_lines (without_mark bytes))) nothing_gathered)
    (λ s. Ok (soup_of s.points s.triples s.labels))
