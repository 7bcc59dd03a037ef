-- A run against the task of its words.
use Rattle.std.specs.Prelude.{◌≡◌, ◌<◌, ◌⊎◌, ℕ, List, IsTrue, Result, Ok}
use Rattle.mesh_terms.specs.Limits.{Limits}
use Rattle.run_terms.specs.Files.{Bytes}
use Rattle.run_terms.specs.Meets.{Why}
use Rattle.run_terms.specs.Tasks.{Task}
use Rattle.play_terms.specs.Ends.{RiseWith}
use Rattle.play_terms.specs.Lines.{report_fault, write_fault}
use Rattle.mb_outside.specs.Seen.{MeetsOn, on_output, seen_of}
use Rattle.mb_outside.specs.declared.shelf.Shelf.{Ghosts as OfShelf}
use Rattle.mb_outside.specs.declared.sink.Sink.{Ghosts as OfSink}
use Rattle.report_lines.specs.Reports.{IsReported}
use Rattle.program_runs.specs.Endings.{TellsAs}
use Rattle.program_runs.specs.Windings.{windings}
use Rattle.play_terms.specs.Program.{Meanings, play}
use Rattle.script_runs.specs.Operations as operations

-- the winding number is that under the kernels of the grid, and an operation of a script is taken under these before its first choice of exact ones, and
-- under those after it, all with rounding to the nearest
abbrev pub meanings : Meanings
meanings = record { points = windings; scripts = operations.meanings }

-- a task was met over a shelf, an output and standard error of any type, in some end, which has this status and whose line was told on standard error
abbrev pub MeetsAs : {S O E : Type 0} → OfShelf S → OfSink O → OfSink E → Task (Unit {0}) → S × O × E → S × O × E → ℕ → Type 0
MeetsAs s o e t old new status =
    (ended : Result (Unit {0}) Why) × MeetsOn s o t (old.0, old.1) (new.0, new.1) ended × TellsAs ended status (on_output e old.2) (on_output e new.2)

-- the run met the task of the words so
abbrev pub RunMeets : {S O E : Type 0} → OfShelf S → OfSink O → OfSink E → Limits → List Bytes → S × O × E → S × O × E → ℕ → Type 0
RunMeets s o e limits words old new status = MeetsAs s o e (play meanings limits words) old new status

-- the status is that of some end, whose line was told on standard error
abbrev pub TellsEnd : {E : Type 0} → OfSink E → E → E → ℕ → Type 0
TellsEnd e old new status = (ended : Result (Unit {0}) Why) × TellsAs ended status (on_output e old) (on_output e new)

-- the output failed, and the line told on standard error is that of the report; or it did not, and the line is that of a file
abbrev pub TellsUnwritten : {O E : Type 0} → OfSink O → OfSink E → O × E → O × E → Type 0
TellsUnwritten o e old new =
    ((o.faults old.0 < o.faults new.0) × IsReported report_fault (on_output e old.1) (on_output e new.1))
    ⊎ ((o.faults new.0 ≡ o.faults old.0) × ((name : Bytes) × IsReported (write_fault name) (on_output e old.1) (on_output e new.1)))

-- the counts rise with the status
abbrev pub RiseOn : {S O : Type 0} → OfShelf S → OfSink O → S × O → S × O → ℕ → Type 0
RiseOn s o old new status = RiseWith status (s.tells old.0) (seen_of s o old.0 old.1).faults (seen_of s o new.0 new.1).faults

-- the files are told, the task of the words refuses nothing over them, and no count rose
pub record IsUntroubled {S O : Type 0} (s : OfShelf S) (o : OfSink O) (limits : Limits) (words : List Bytes) (old new : S × O) : Type 0 where
  pub told : IsTrue (s.tells old.0)
  pub whole : (play meanings limits words (s.files old.0)).result ≡ Ok tt
  pub reads : s.read_faults new.0 ≡ s.read_faults old.0
  pub writes : s.write_faults new.0 ≡ s.write_faults old.0
  pub outs : o.faults new.1 ≡ o.faults old.1

-- a file of 2 GiB, 15,000,000 points, 10,000,000 triangles, and 6,000,000 half-edges of an operation
abbrev pub program_limits : Limits
program_limits = record { file_bytes = 2147483648; points = 15000000; triangles = 10000000; halfedges = 6000000 }
