-- The lines that the program says on its output, and those that tell why it ended.
use Rattle.std.specs.Prelude.{ℕ, ℤ, ◌+◌, ◌++◌, ◌==◌, if◌then◌else◌, length, codes, decimal}
use Rattle.std.specs.Fmt.{signed_decimal}
use Rattle.mesh_terms.specs.Faults.{Counted, FileBytes, Points, Triangles, Halfedges}
use Rattle.mesh_terms.specs.Meshes.{Soup}
use Rattle.text_terms.specs.Written.{line_of}
use Rattle.run_terms.specs.Files.{Bytes}

abbrev pub usage : Bytes
usage = line_of (codes "usage: manifold_tool copy IN OUT, inside FILE X Y Z or run SCRIPT, each with --digits K")

abbrev pub missing : Bytes → Bytes
missing name = line_of (name ++ codes ": missing")

-- NAME:LINE: NUMBER KIND
abbrev pub faulty_line : Bytes → ℕ → ℕ → Bytes → Bytes
faulty_line name line kind kind_name = line_of (name ++ codes ":" ++ decimal line ++ codes ": " ++ decimal kind ++ codes " " ++ kind_name)

-- the name of a kind of fault of a mesh's text by its number
abbrev pub kind_name : ℕ → Bytes
kind_name kind =
    if kind == 1 then codes "UnknownLine"
    else if kind == 2 then codes "BadVertex"
    else if kind == 3 then codes "BadNumber"
    else if kind == 4 then codes "OutOfGrid"
    else if kind == 5 then codes "BadFace"
    else if kind == 6 then codes "BadIndex"
    else if kind == 7 then codes "FaceRepeatsVertex"
    else codes "NotStl"

abbrev pub limit_name : Counted → Bytes
limit_name FileBytes = codes "file_bytes"
limit_name Points = codes "points"
limit_name Triangles = codes "triangles"
limit_name Halfedges = codes "halfedges"

-- limit WHAT SEEN
abbrev pub over : Counted → ℕ → Bytes
over what seen = line_of (codes "limit " ++ limit_name what ++ codes " " ++ decimal seen)

-- FILE: 11 OpenEdge FROM TO, counted from 1
abbrev pub open_edge : Bytes → ℕ → ℕ → Bytes
open_edge name from to = line_of (name ++ codes ": 11 OpenEdge " ++ decimal (from + 1) ++ codes " " ++ decimal (to + 1))

abbrev pub read_fault : Bytes → Bytes
read_fault name = line_of (name ++ codes ": read fault")

abbrev pub write_fault : Bytes → Bytes
write_fault name = line_of (name ++ codes ": write fault")

abbrev pub report_fault : Bytes
report_fault = line_of (codes "report: write fault")

abbrev pub no_memory : Bytes
no_memory = line_of (codes "out of memory")

-- : points P, triangles T, unused U
abbrev pub counts_text : ℕ → ℕ → ℕ → Bytes
counts_text points triangles unused = codes ": points " ++ decimal points ++ codes ", triangles " ++ decimal triangles ++ codes ", unused " ++ decimal unused

-- copied OUT: points P, triangles T, unused U
abbrev pub copied_line : Bytes → Soup → Bytes
copied_line to m = line_of (codes "copied " ++ to ++ counts_text (length m.points) (length m.triples) m.unused)

-- winding W
abbrev pub winding_line : ℤ → Bytes
winding_line w = line_of (codes "winding " ++ signed_decimal w)
