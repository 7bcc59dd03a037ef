-- What the top call promises, by what it promises of its command.
use Rattle.std.proofs.Common.{◌<◌, ◌^◌, ◌-◌, ℕ, List}
use Rattle.mb_outside.specs.declared.shelf.Shelf.{Ghosts as OfShelf}
use Rattle.mb_outside.specs.declared.sink.Sink.{Ghosts as OfSink}
use Rattle.program_runs.specs.declared.status.Status.{Status}
use Rattle.mesh_terms.specs.Limits.{Limits}
use Rattle.play_terms.specs.Program.{play}
use Rattle.play_terms.specs.Words.{command}
use Rattle.run_terms.specs.Files.{Bytes}
use Rattle.program_runs.specs.Playing.{meanings}
use Rattle.program_runs.specs.Promises.{IsSoundPlay, IsSoundRun}
use Rattle.program_runs.specs.Running.{IsRunOf}
use Rattle.program_runs.proofs.Faults.{complete, rise_on}

-- where no count of faults was at its last value
pub promised : {S O E : Type 0} (s : OfShelf S) (o : OfSink O) (e : OfSink E) (limits : Limits) (words : List Bytes) (old new : S × O × E) (before now : ℕ) (status : Status)
    → s.read_faults old.0 < 2 ^ 64 - 1 → s.write_faults old.0 < 2 ^ 64 - 1 → o.faults old.1 < 2 ^ 64 - 1 → IsSoundPlay limits words
    → IsRunOf s o e limits (command words) old new before now status → IsSoundRun s o e limits words old new before now status
promised s o e limits words old new before now status reads writes outs sound run = record {
  run = run;
  counts = rise_on s o e old new reads writes outs (play meanings limits words) _ run.play;
  complete = complete s o e old new reads writes outs limits words status run.play;
  sound = sound;
}
