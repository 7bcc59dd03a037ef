-- What the top calls promise of the words.
use Rattle.std.specs.Prelude.{◌≡◌, ℕ, All, List, [], None}
use Rattle.mesh_terms.specs.Limits.{Limits}
use Rattle.run_terms.specs.Files.{Bytes, Files}
use Rattle.play_terms.specs.Ends.{why_line, why_status}
use Rattle.play_terms.specs.Lines as lines
use Rattle.play_terms.specs.Program.{play}
use Rattle.play_terms.specs.ReadingBack.{CopiesReadable, WritesReadable, digits_in}
use Rattle.play_terms.specs.Words.{command}
use Rattle.mb_outside.specs.Seen.{on_output}
use Rattle.mb_outside.specs.declared.shelf.Shelf.{Ghosts as OfShelf}
use Rattle.mb_outside.specs.declared.sink.Sink.{Ghosts as OfSink}
use Rattle.mesh_files.specs.Reasons.{why_of}
use Rattle.mesh_files.specs.declared.stop.Stop.{Stop}
use Rattle.report_lines.specs.Reports.{IsReported}
use Rattle.program_runs.specs.Statuses.{IsDoneOrStarved, IsUsageOrStarved, status_number}
use Rattle.program_runs.specs.declared.status.Status.{Status}
use Rattle.program_runs.specs.declared.status.Status.TheVariants.{Done, Usage, WriteFault}
use Rattle.program_runs.specs.Playing.{IsUntroubled, RiseOn, TellsEnd, TellsUnwritten, meanings}
use Rattle.program_runs.specs.Results.{CommandGivesResults, CommandIsGeometric, CommandKeepsMeshes, CommandReadsStl, CommandRemeshes}
use Rattle.operation_laws.specs.Results.{CutsAreCounted}
use Rattle.program_runs.specs.Running.{IsRunOf}

-- whatever the files, how what the play writes is read again, what the names of a script hold, what is read of STL texts, what operations give and keep, what remeshing
-- keeps, and what an inspection counts
pub record IsSoundPlay (limits : Limits) (words : List Bytes) : Type 0 where
  pub mesh_back : CopiesReadable limits (command words)
  pub back : (files : Files) → All (WritesReadable (digits_in (command words)) limits) (play meanings limits words files).actions
  pub held : CommandKeepsMeshes limits (command words)
  pub stl : CommandReadsStl limits (command words)
  pub results : CommandGivesResults limits (command words)
  pub geometric : CommandIsGeometric limits (command words)
  pub remeshed : CommandRemeshes limits (command words)
  pub inspected : CutsAreCounted

-- a run on these words over a shelf, an output and standard error, with its sums and its status
pub record IsSoundRun {S O E : Type 0} (s : OfShelf S) (o : OfSink O) (e : OfSink E) (limits : Limits) (words : List Bytes) (old new : S × O × E)
    (before now : ℕ) (status : Status) : Type 0 where
  pub run : IsRunOf s o e limits (command words) old new before now status
  pub counts : RiseOn s o (old.0, old.1) (new.0, new.1) (status_number status)
  pub complete : IsUntroubled s o limits words (old.0, old.1) (new.0, new.1) → IsDoneOrStarved status
  pub sound : IsSoundPlay limits words

-- where the words could not be had: the run ends with the status that this gives, and its line on standard error
pub record IsUnread {E : Type 0} (e : OfSink E) (stop : Stop) (old new : E) (ended : Status) : Type 0 where
  pub status : status_number ended ≡ why_status (why_of [] stop)
  pub report : IsReported (why_line (why_of [] stop)) (on_output e old) (on_output e new)

-- what the output and standard error have of a run on these words, whatever the shelf
pub record IsHeard {O E : Type 0} (o : OfSink O) (e : OfSink E) (words : List Bytes) (old new : O × E) (status : Status) : Type 0 where
  pub usage : status ≡ Usage → command words ≡ None
  pub no_command : command words ≡ None → IsUsageOrStarved status
  pub refused : status ≡ Usage → IsReported lines.usage (on_output e old.1) (on_output e new.1)
  pub untouched : status ≡ Usage → new.0 ≡ old.0
  pub quiet : status ≡ Done → new.1 ≡ old.1
  pub told : TellsEnd e old.1 new.1 (status_number status)
  pub outs : (status ≡ WriteFault → ⊥) → o.faults new.0 ≡ o.faults old.0
  pub blamed : status ≡ WriteFault → TellsUnwritten o e old new
