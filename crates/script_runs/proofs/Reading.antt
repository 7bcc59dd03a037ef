-- A script by its parts: its file is read, its text is read, and its lines are done.
use Rattle.std.proofs.Common.{◌≡◌, ◌+◌, ◌≤◌, ℕ, Bool, List, [], Result, Ok, Err, IsTrue, refl, ap, sym, subst, arith}
use Rattle.mb_base.specs.declared.kernel_kind.KernelKind.{KernelKind}
use Rattle.mb_base.specs.declared.kernel_kind.KernelKind.TheVariants.{Grid}
use Rattle.mesh_terms.specs.Limits.{Limits}
use Rattle.mb_outside.specs.Seen.{OnOutput, OnShelf, ShelfMeets, seen}
use Rattle.play_terms.specs.Commands.{ask_file}
use Rattle.run_terms.specs.Files.{Bytes, Files}
use Rattle.run_terms.specs.Meets.{Meets, Seen, Why}
use Rattle.run_terms.specs.Runs.{World}
use Rattle.run_terms.specs.Tasks.{Task, give, then_task}
use Rattle.play_laws.proofs.Tasks.{meets_given, meets_refused, meets_starved, meets_stop, meets_then}
use Rattle.script_lang.specs.Faults.{IsFaultOf}
use Rattle.script_lang.specs.declared.fault.ScriptFault.{ScriptFault}
use Rattle.script_lang.specs.declared.fault.ScriptFault.TheVariants.{Bad, NoMemory}
use Rattle.play_terms.specs.Plays.{Held, Meanings, State, at_first, script_checked, script_task, steps_task}
use Rattle.play_terms.specs.Scripts.{script}
use Rattle.play_terms.specs.Steps.{Line}
use Rattle.script_runs.specs.Costs.{cost_of_value, lines_cost, script_cost, text_cost}
use Rattle.script_runs.specs.Names.{state_in}
use Rattle.script_runs.specs.Texts.{text_task, why_of_fault}

module _ (means : KernelKind → Meanings) (k : ℕ) (limits : Limits) (name : Bytes) where
  -- the steps of the lines, and no value
  abbrev doing : List Line → Task (Unit {0})
  doing lines = then_task (steps_task means k limits name lines at_first) (λ _. give (Ok tt))

  -- a faulty text, or want of memory
  pub text_refused : (text : Bytes) (fault : ScriptFault) (now : Seen) → IsFaultOf (script k text) fault →
      Meets (text_task means k limits name text) now now (Err (why_of_fault name fault))
  text_refused text (Bad line kind) now is =
      meets_stop (give (script_checked name (script k text))) doing (why_of_fault name (Bad line kind)) now now
      (meets_refused (script_checked name (script k text)) _ now (ap (script_checked name) is))
  text_refused text NoMemory now is = meets_starved (text_task means k limits name text) now

  -- the lines of a text were done, beginning without names
  pub text_done : (text : Bytes) (lines : List Line) (es : List (Bytes × Held)) (after : State) (before now : Seen) → es ≡ [] → script k text ≡ Ok lines
      → Meets (steps_task means k limits name lines (state_in Grid es)) before now (Ok after) → Meets (text_task means k limits name text) before now (Ok tt)
  text_done text lines es after before now none is met =
      let P : List (Bytes × Held) → Type 0 = λ es. Meets (steps_task means k limits name lines (state_in Grid es)) before now (Ok after) in
      meets_then (give (script_checked name (script k text))) doing lines (Ok tt) before before now
      (meets_given (script_checked name (script k text)) lines before (ap (script_checked name) is))
      (meets_then (steps_task means k limits name lines at_first) (λ _. give (Ok tt)) after (Ok tt) before now now (subst P none met) (meets_given (Ok tt) tt now refl))

  -- or one of them stopped
  pub text_stopped : (text : Bytes) (lines : List Line) (es : List (Bytes × Held)) (why : Why) (before now : Seen) → es ≡ [] → script k text ≡ Ok lines
      → Meets (steps_task means k limits name lines (state_in Grid es)) before now (Err why) → Meets (text_task means k limits name text) before now (Err why)
  text_stopped text lines es why before now none is met =
      let P : List (Bytes × Held) → Type 0 = λ es. Meets (steps_task means k limits name lines (state_in Grid es)) before now (Err why) in
      meets_then (give (script_checked name (script k text))) doing lines (Err why) before before now
      (meets_given (script_checked name (script k text)) lines before (ap (script_checked name) is))
      (meets_stop (steps_task means k limits name lines at_first) (λ _. give (Ok tt)) why before now (subst P none met))

  -- what the text costs is what its lines do
  pub text_spent : (text : Bytes) (lines : List Line) (es : List (Bytes × Held)) (files : Files) (old new : ℕ) → es ≡ [] → script k text ≡ Ok lines
      → new ≤ old + lines_cost means k limits name lines (state_in Grid es) files → new ≤ old + text_cost means k limits name text files
  text_spent text lines es files old new none is most =
      omega (
        arith,
        most,
        ap (λ es. lines_cost means k limits name lines (state_in Grid es) files) none,
        ap (λ r. cost_of_value (script_checked name r) (λ ls. lines_cost means k limits name ls at_first files)) is,
      )

  -- the file of a script was not read
  pub script_unread : (before now : OnShelf) (out : OnOutput) (why : Why) → ShelfMeets (ask_file limits name) before now (Err why)
      → Meets (script_task means k limits name) (seen before out.told out.faults) (seen now out.told out.faults) (Err why)
  script_unread before now out why ask =
      meets_stop (ask_file limits name) (text_task means k limits name) why (seen before out.told out.faults) (seen now out.told out.faults) (ask out.told out.faults)

  -- it was read, and so its text was done, or stopped
  pub script_read : (bytes : Bytes) (before mid : OnShelf) (out : OnOutput) (now : Seen) (r : Result (Unit {0}) Why) → ShelfMeets (ask_file limits name) before mid (Ok bytes)
      → Meets (text_task means k limits name bytes) (seen mid out.told out.faults) now r → Meets (script_task means k limits name) (seen before out.told out.faults) now r
  script_read bytes before mid out now r ask text =
      meets_then (ask_file limits name) (text_task means k limits name) bytes r (seen before out.told out.faults) (seen mid out.told out.faults) now (ask out.told out.faults) text

  -- what the script costs is what its text does
  pub script_spent : (bytes : Bytes) (before mid : OnShelf) (out : OnOutput) (old new : ℕ) → ShelfMeets (ask_file limits name) before mid (Ok bytes)
      → (IsTrue mid.tells → new ≤ old + text_cost means k limits name bytes mid.files) → IsTrue before.tells → new ≤ old + script_cost means k limits name before.files
  script_spent bytes before mid out old new ask most told =
      let P : Bool → Type 0 = λ t. IsTrue t in
      let met = ask out.told out.faults in
      let did = met.does told in
      let files : mid.files ≡ before.files = ap (λ (w : World). w.files) did.all_done in
      omega (
        arith,
        most (subst P (sym met.tells) told),
        ap (text_cost means k limits name bytes) files,
        ap (λ r. cost_of_value r (λ b. text_cost means k limits name b before.files)) did.gives,
      )
