-- What copy and inside do: a file is asked for, read and checked; then a copy is written and told, or a winding number is told.
use Rattle.std.specs.Prelude.{ℕ, ℤ, List, if◌then◌else◌, nat_lt, length, Option, Some, None, Result, Ok, Err, [], ◌∷◌}
use Rattle.chain_terms.specs.Chains.{all_edges}
use Rattle.mesh_terms.specs.Faults.{FileBytes, Fault, Bad, Over}
use Rattle.mesh_terms.specs.Limits.{Limits}
use Rattle.mesh_terms.specs.Meshes.{Triple, Soup}
use Rattle.mesh_terms.specs.OpenEdges.{open_pair}
use Rattle.run_terms.specs.Files.{Bytes}
use Rattle.run_terms.specs.Runs.{Ask, Write, Say}
use Rattle.run_terms.specs.Tasks.{Refusal, NoFile, FaultyText, OpenEdge, PastLimit, Task, give, act, then_task}
use Rattle.play_terms.specs.Formats.{mesh_soup, mesh_text}
use Rattle.play_terms.specs.Lines.{copied_line, winding_line}

-- what the commands need of geometry: the winding number of a point in a mesh
pub record Meanings : Type 0 where
  pub winding : List ℤ → Soup → ℤ

-- the bytes of a file of this name: refused where it is not there or too long
abbrev pub bytes_in : Limits → Bytes → Option Bytes → Result Bytes Refusal
bytes_in limits name None = Err (NoFile name)
bytes_in limits name (Some bytes) = if nat_lt limits.file_bytes (length bytes) then Err (PastLimit FileBytes (length bytes)) else Ok bytes

-- an open mesh is refused by its least open pair
abbrev pub if_closed : Bytes → Soup → Option (ℕ × ℕ) → Result Soup Refusal
if_closed name soup None = Ok soup
if_closed name soup (Some e) = Err (OpenEdge name e.0 e.1)

-- a text is refused by its first fault, and then by its edges
abbrev pub checked : Bytes → Result Soup Fault → Result Soup Refusal
checked name (Err (Bad line kind)) = Err (FaultyText name line kind)
checked name (Err (Over what seen)) = Err (PastLimit what seen)
checked name (Ok soup) = if_closed name soup (open_pair (all_edges soup.triples))

-- a file is read
abbrev pub ask_file : Limits → Bytes → Task Bytes
ask_file limits name files = record { actions = Ask name ∷ []; result = bytes_in limits name (files name) }

-- a mesh is read under k digits: a file, and then its text, in the format of its name, and its edges
abbrev pub ask_mesh : ℕ → Limits → Bytes → Task Soup
ask_mesh k limits name = then_task (ask_file limits name) (λ bytes. give (checked name (mesh_soup k limits name bytes)))

-- the text of a mesh, in the format of the name, is written under k digits
abbrev pub write_mesh : ℕ → Bytes → List (List ℤ) → List Triple → List Bytes → Task (Unit {0})
write_mesh k name points triples labels = act (Write name (mesh_text k name points triples labels))

abbrev pub say_line : Bytes → Task (Unit {0})
say_line line = act (Say line)

-- a mesh is written and told
abbrev pub copied_task : ℕ → Bytes → Soup → Task (Unit {0})
copied_task k to m = then_task (write_mesh k to m.points m.triples m.labels) (λ _. say_line (copied_line to m))

abbrev pub copy_task : ℕ → Limits → Bytes → Bytes → Task (Unit {0})
copy_task k limits from to = then_task (ask_mesh k limits from) (copied_task k to)

-- the winding number of a point is told
abbrev pub winding_task : Meanings → List ℤ → Soup → Task (Unit {0})
winding_task meanings p m = say_line (winding_line (meanings.winding p m))

abbrev pub inside_task : ℕ → Meanings → Limits → Bytes → List ℤ → Task (Unit {0})
inside_task k meanings limits name p = then_task (ask_mesh k limits name) (winding_task meanings p)
