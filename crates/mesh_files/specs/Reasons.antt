-- Why a file was not read or saved, and what a call that ended so owes.
use Rattle.std.specs.Prelude.{ℕ, Bool, true, false, Result, Ok, Err}
use Rattle.mb_base.specs.Faults.{counted_of, kind_number}
use Rattle.mesh_terms.specs.Meshes.{Mesh, Soup}
use Rattle.run_terms.specs.Files.{Bytes}
use Rattle.run_terms.specs.Meets.{Why, Refused, Unread, Unwritten, Starved}
use Rattle.run_terms.specs.Tasks.{NoCommand, FaultyScript, NoFile, FaultyText, OpenEdge, FaultyStep, PastLimit}
use Rattle.mesh_files.specs.declared.stop.Stop.{Stop}
use Rattle.mesh_files.specs.declared.stop.Stop.TheVariants.{Usage, BadScript, BadStep, Missing, BadText, BadEdge, Over, ReadFault, WriteFault, NoMemory}

-- a stop at the file of this name, or at a line of the script of this name
abbrev pub why_of : Bytes → Stop → Why
why_of name Usage = Refused NoCommand
why_of name (BadScript line kind) = Refused (FaultyScript name line kind)
why_of name (BadStep line kind) = Refused (FaultyStep name line kind)
why_of name Missing = Refused (NoFile name)
why_of name (BadText line kind) = Refused (FaultyText name line (kind_number kind))
why_of name (BadEdge from to) = Refused (OpenEdge name from to)
why_of name (Over what seen) = Refused (PastLimit (counted_of what) seen)
why_of name ReadFault = Unread name
why_of name WriteFault = Unwritten name
why_of name NoMemory = Starved

-- the outside, the file or the memory is at fault as a mesh is read
abbrev pub is_reading_stop : Stop → Bool
is_reading_stop Usage = false
is_reading_stop (BadScript line kind) = false
is_reading_stop (BadStep line kind) = false
is_reading_stop WriteFault = false
is_reading_stop _ = true

-- a mesh, with the number of points that were dropped
abbrev pub soup_of : Mesh → ℕ → Soup
soup_of mesh unused = record { points = mesh.points; triples = mesh.triples; labels = mesh.labels; unused = unused }

-- how a call at the file of this name ended, where its value counts as this
abbrev pub ended_by : {T A : Type 0} → (T → A) → Bytes → Result T Stop → Result A Why
ended_by value name (Ok x) = Ok (value x)
ended_by value name (Err stop) = Err (why_of name stop)

-- how a saving ended
abbrev pub saved : Bytes → Result (Unit {0}) Stop → Result (Unit {0}) Why
saved name result = ended_by (λ done. done) name result
