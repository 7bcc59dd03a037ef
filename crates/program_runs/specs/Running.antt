-- What a run promises of its command.
use Rattle.std.specs.Prelude.{◌≡◌, ◌≤◌, ◌+◌, ℕ, Bool, IsTrue, Option, None}
use Rattle.mesh_terms.specs.Limits.{Limits}
use Rattle.run_terms.specs.Files.{Files}
use Rattle.play_terms.specs.Lines as lines
use Rattle.play_terms.specs.Words.{Command, IsCopy, IsInside, IsRun}
use Rattle.mb_outside.specs.Seen.{on_output}
use Rattle.mb_outside.specs.declared.shelf.Shelf.{Ghosts as OfShelf}
use Rattle.mb_outside.specs.declared.sink.Sink.{Ghosts as OfSink}
use Rattle.play_terms.specs.Program.{command_task}
use Rattle.report_lines.specs.Reports.{IsReported}
use Rattle.program_runs.specs.Statuses.{IsUsageOrStarved, status_number}
use Rattle.program_runs.specs.declared.status.Status.{Status}
use Rattle.program_runs.specs.declared.status.Status.TheVariants.{Done, Usage, WriteFault}
use Rattle.program_runs.specs.Counting.{command_cost}
use Rattle.program_runs.specs.Playing.{MeetsAs, meanings}

-- its sums, of which there were so many before and are so many now
pub record IsCounted (limits : Limits) (what : Option Command) (tells : Bool) (files : Files) (before now : ℕ) (status : Status) : Type 0 where
  pub copies_uncounted : IsCopy what → now ≡ before
  pub counted : IsInside what → status ≡ Done → now ≡ before + 1
  pub most : (IsRun what → ⊥) → now ≤ before + 1
  pub cost : IsTrue tells → now ≤ before + command_cost limits what files
  pub uncounted : (IsRun what → ⊥) → (status ≡ Done → ⊥) → (status ≡ WriteFault → ⊥) → now ≡ before

-- all of it, where None stands for words of no command
pub record IsRunOf {S O E : Type 0} (s : OfShelf S) (o : OfSink O) (e : OfSink E) (limits : Limits) (what : Option Command) (old new : S × O × E)
    (before now : ℕ) (status : Status) : Type 0 where
  pub usage : status ≡ Usage → what ≡ None
  pub no_command : what ≡ None → IsUsageOrStarved status
  pub refused : status ≡ Usage → IsReported lines.usage (on_output e old.2) (on_output e new.2)
  pub untouched : status ≡ Usage → (new.0 ≡ old.0) × (new.1 ≡ old.1)
  pub quiet : status ≡ Done → new.2 ≡ old.2
  pub play : MeetsAs s o e (command_task meanings limits what) old new (status_number status)
  pub sums : IsCounted limits what (s.tells old.0) (s.files old.0) before now status
