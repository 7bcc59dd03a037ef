-- What a command over a shelf, an output and standard error promises of its task.
use Rattle.std.specs.Prelude.{◌≡◌, Result, IfErr}
use Rattle.run_terms.specs.Tasks.{Task}
use Rattle.mb_outside.specs.Seen.{MeetsOn, on_output}
use Rattle.mb_outside.specs.declared.shelf.Shelf.{Ghosts as OfShelf}
use Rattle.mb_outside.specs.declared.sink.Sink.{Ghosts as OfSink}
use Rattle.mesh_files.specs.Halts.{halted}
use Rattle.mesh_files.specs.declared.halt.Halt.{Halt}
use Rattle.program_runs.specs.Endings.{TellsAs}
use Rattle.program_runs.specs.Statuses.{status_number}
use Rattle.program_runs.specs.declared.status.Status.{Status}
use Rattle.program_runs.specs.declared.status.Status.TheVariants.{Done}

-- the task was met, and where the command stopped it may stop
pub record IsMet {S O : Type 0} (s : OfShelf S) (o : OfSink O) (task : Task (Unit {0})) (MayHalt : Halt → Type 0) (old new : S × O) (ended : Result (Unit {0}) Halt) : Type 0 where
  pub meets : MeetsOn s o task old new (halted ended)
  pub halts : IfErr ended MayHalt

-- the same in some end, which the status and a line on standard error tell; where all was done, standard error stayed as it was
pub record IsEnded {S O E : Type 0} (s : OfShelf S) (o : OfSink O) (e : OfSink E) (task : Task (Unit {0})) (MayHalt : Halt → Type 0) (old new : S × O × E)
    (status : Status) : Type 0 where
  pub ended : Result (Unit {0}) Halt
  pub met : IsMet s o task MayHalt (old.0, old.1) (new.0, new.1) ended
  pub told : TellsAs (halted ended) (status_number status) (on_output e old.2) (on_output e new.2)
  pub quiet : status ≡ Done → new.2 ≡ old.2
