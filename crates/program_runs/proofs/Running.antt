-- A run by its words and its command.
use Rattle.std.proofs.Common.{◌≡◌, ◌≤◌, ◌+◌, ◌∙◌, ℕ, ℤ, IfErr, IsTrue, List, Option, Some, None, Result, Ok, Err, ap, inl, inr, refl, subst, sym}
use Rattle.mesh_terms.specs.Limits.{Limits}
use Rattle.run_terms.specs.Files.{Bytes}
use Rattle.run_terms.specs.Meets.{Meets, Refused, Starved}
use Rattle.run_terms.specs.Tasks.{NoCommand}
use Rattle.play_laws.proofs.Tasks.{meets_starved}
use Rattle.play_terms.specs.Commands.{copy_task, inside_task}
use Rattle.play_terms.specs.Ends.{ended_status}
use Rattle.play_terms.specs.Lines.{no_memory, usage}
use Rattle.play_terms.specs.Words.{Command, CopyFile, InsideFile, RunScript}
use Rattle.play_terms.specs.Program.{command_task}
use Rattle.play_terms.specs.Plays.{script_task}
use Rattle.mb_outside.specs.Seen.{on_output, seen_of}
use Rattle.mb_outside.specs.declared.shelf.Shelf.{Ghosts as OfShelf}
use Rattle.mb_outside.specs.declared.sink.Sink.{Ghosts as OfSink}
use Rattle.mesh_files.specs.declared.stop.Stop.TheVariants as stop
use Rattle.mesh_files.specs.Halts.{IsHaltOfCopy, IsHaltOfInside, halted}
use Rattle.report_lines.specs.Reports.{IsReported}
use Rattle.mesh_files.specs.declared.halt.Halt.{Halt}
use Rattle.mesh_files.specs.declared.halt.Halt.TheVariants as halt
use Rattle.program_runs.proofs.Halts.{copy_worded, inside_worded}
use Rattle.program_runs.specs.Commands.{IsEnded}
use Rattle.program_runs.specs.Points.{sums_of_point}
use Rattle.program_runs.specs.Statuses.{status_number}
use Rattle.program_runs.specs.Windings.{windings}
use Rattle.program_runs.specs.declared.status.Status.{Status}
use Rattle.program_runs.specs.declared.status.Status.TheVariants as statuses
use Rattle.script_runs.specs.Costs.{script_cost}
use Rattle.script_runs.specs.Halts.{IsHaltOfScript}
use Rattle.script_runs.specs.Operations as operations
use Rattle.program_runs.specs.Playing.{meanings}
use Rattle.program_runs.specs.Running.{IsCounted, IsRunOf}
use Rattle.program_runs.proofs.Counting.{none_counted, point_counted, script_counted}

-- no script ends as words of no command do
script_worded : (script : Bytes) (ended : Result (Unit {0}) Halt) → IfErr ended (IsHaltOfScript script) → ended_status (halted ended) ≡ 1 → ⊥
script_worded script (Ok done) halts is = cc
script_worded script (Err (halt.At name stop.Usage)) halts is = absurd halts
script_worded script (Err (halt.At name (stop.BadScript line kind))) halts is = cc
script_worded script (Err (halt.At name (stop.BadStep line kind))) halts is = cc
script_worded script (Err (halt.At name stop.Missing)) halts is = cc
script_worded script (Err (halt.At name (stop.BadText line kind))) halts is = cc
script_worded script (Err (halt.At name (stop.BadEdge from to))) halts is = cc
script_worded script (Err (halt.At name (stop.Over what seen))) halts is = cc
script_worded script (Err (halt.At name stop.ReadFault)) halts is = cc
script_worded script (Err (halt.At name stop.WriteFault)) halts is = cc
script_worded script (Err (halt.At name stop.NoMemory)) halts is = cc
script_worded script (Err halt.Reporting) halts is = cc
script_worded script (Err halt.NoMemory) halts is = cc

module _ {S O E : Type 0} (s : OfShelf S) (o : OfSink O) (e : OfSink E) (limits : Limits) (words : Option Command) (old new : S × O × E) (before now : ℕ) (status : Status) where
  -- a command that the words ask for
  command_run : (command : Command) (MayHalt : Halt → Type 0) → words ≡ Some command → IsEnded s o e (command_task meanings limits (Some command)) MayHalt old new status
      → ((ended : Result (Unit {0}) Halt) → IfErr ended MayHalt → ended_status (halted ended) ≡ 1 → ⊥) → IsCounted limits (Some command) (s.tells old.0)
      (s.files old.0) before now status
      → IsRunOf s o e limits words old new before now status
  command_run command MayHalt asked ends no_words sums =
      let worded : status ≡ statuses.Usage → ⊥ = λ is. no_words ends.ended ends.met.halts (sym ends.told.0 ∙ ap status_number is) in
      let P : Option Command → Type 0 = λ w. IsRunOf s o e limits w old new before now status in
      subst P (sym asked)
      (record {
        usage = λ is. absurd (worded is);
        no_command = λ none. absurd cc;
        refused = λ is. absurd (worded is);
        untouched = λ is. absurd (worded is);
        quiet = ends.quiet;
        play = (halted ends.ended, ends.met.meets, ends.told);
        sums = sums;
      })

  pub point_run : (k : ℕ) (file : Bytes) (point : List ℤ) → words ≡ Some (InsideFile k file point) →
      IsEnded s o e (inside_task k windings limits file point) (IsHaltOfInside file) old new status
      → now ≡ before + sums_of_point status → IsRunOf s o e limits words old new before now status
  point_run k file point asked ends counted =
      command_run (InsideFile k file point) (IsHaltOfInside file) asked ends (inside_worded file)
      (point_counted limits (s.tells old.0) (s.files old.0) k file point before now status counted)

  pub script_run : (k : ℕ) (script : Bytes) → words ≡ Some (RunScript k script) →
      IsEnded s o e (script_task operations.meanings k limits script) (IsHaltOfScript script) old new status
      → (IsTrue (s.tells old.0) → now ≤ before + script_cost operations.meanings k limits script (s.files old.0)) → IsRunOf s o e limits words old new before now status
  script_run k script asked ends cost =
      command_run (RunScript k script) (IsHaltOfScript script) asked ends (script_worded script)
      (script_counted limits (s.tells old.0) (s.files old.0) k script before now status cost)

module _ {S O E : Type 0} (s : OfShelf S) (o : OfSink O) (e : OfSink E) (limits : Limits) (words : Option Command) (sums : ℕ) where
  pub copy_run : (k : ℕ) (from to : Bytes) (old new : S × O × E) (status : Status) → words ≡ Some (CopyFile k from to)
      → IsEnded s o e (copy_task k limits from to) (IsHaltOfCopy from to) old new status → IsRunOf s o e limits words old new sums sums status
  copy_run k from to old new status asked ends =
      command_run s o e limits words old new sums sums status (CopyFile k from to) (IsHaltOfCopy from to) asked ends (copy_worded from to)
      (none_counted limits (s.tells old.0) (s.files old.0) (Some (CopyFile k from to)) sums status (λ inside _. let wrong = inside.3 in absurd cc))

  -- words of no command are refused
  pub refused_run : (shelf : S) (out : O) (err told : E) → words ≡ None → IsReported usage (on_output e err) (on_output e told)
      → IsRunOf s o e limits words (shelf, out, err) (shelf, out, told) sums sums statuses.Usage
  refused_run shelf out err told none line =
      let now = seen_of s o shelf out in
      let refused : Meets (command_task meanings limits None) now now (Err (Refused NoCommand)) =
      record { tells = refl; faults = refl; does = λ t. record { gives = refl; all_done = refl } } in
      let P : Option Command → Type 0 = λ w. IsRunOf s o e limits w (shelf, out, err) (shelf, out, told) sums sums statuses.Usage in
      subst P (sym none)
      (record {
        usage = λ _. refl;
        no_command = λ _. inl refl;
        refused = λ _. line;
        untouched = λ _. (refl, refl);
        quiet = λ is. absurd cc;
        play = (Err (Refused NoCommand), refused, (refl, line));
        sums = none_counted limits (s.tells shelf) (s.files shelf) None sums statuses.Usage (λ _ is. cc);
      })

  -- where memory is wanting to read the words, nothing is done
  pub unread_words_run : (shelf : S) (out : O) (err told : E) → IsReported no_memory (on_output e err) (on_output e told)
      → IsRunOf s o e limits words (shelf, out, err) (shelf, out, told) sums sums statuses.NoMemory
  unread_words_run shelf out err told line = record {
    usage = λ is. absurd cc;
    no_command = λ _. inr refl;
    refused = λ is. absurd cc;
    untouched = λ is. absurd cc;
    quiet = λ is. absurd cc;
    play = (Err Starved, meets_starved (command_task meanings limits words) (seen_of s o shelf out), (refl, line));
    sums = none_counted limits (s.tells shelf) (s.files shelf) words sums statuses.NoMemory (λ _ is. cc);
  }
