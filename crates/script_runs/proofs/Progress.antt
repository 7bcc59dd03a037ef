-- How far a script has come: the lines that are done, the names, and the sums that were counted.
use Rattle.std.proofs.Common.{◌≡◌, ◌+◌, ◌<◌, ◌≤◌, ◌++◌, ℕ, Bool, List, [], ◌∷◌, length, get_or, take, drop, Ok, Err, IsTrue, refl, ap, sym, subst, ◌∙◌, arith}
use Rattle.std.proofs.lemmas.List.{drop_more, take_more}
use Rattle.mb_base.specs.declared.kernel_kind.KernelKind.{KernelKind}
use Rattle.mesh_terms.specs.Limits.{Limits}
use Rattle.run_terms.specs.Files.{Bytes, Files}
use Rattle.run_terms.specs.Meets.{Meets, Seen, Why}
use Rattle.run_terms.specs.Runs.{World}
use Rattle.run_terms.specs.Tasks.{Task, changed_all, give}
use Rattle.play_laws.proofs.Tasks.{files_done, meets_given, meets_stop, meets_then}
use Rattle.play_terms.specs.Plays.{Meanings, Named, State, in_order, line_task, state_after, step_task, steps_task}
use Rattle.play_terms.specs.Sound.{AreSound, HasNumbers, IsSound}
use Rattle.play_terms.specs.Steps.{Line}
use Rattle.play_laws.specs.SoFar.{SoFar}
use Rattle.play_laws.proofs.Loops.{all_done, begins, goes_on, stops_at}
use Rattle.script_runs.specs.Costs.{cost_after, cost_of_value, lines_cost, step_cost}
use Rattle.script_runs.specs.Names.{HasTaken, KeepsNames}
use Rattle.script_runs.proofs.Known.{AreNamed, has_taken, named_next, none_named}

module _ (means : KernelKind → Meanings) (k : ℕ) (limits : Limits) (script : Bytes) (lines : List Line) (state : State) (start : Seen) (old : ℕ) where
  -- the task of a line
  abbrev doing : Line → State → Task State
  doing = line_task means k limits script

  abbrev whole : Task State
  whole = steps_task means k limits script lines state

  -- what lines cost
  abbrev cost_of : List Line → State → Files → ℕ
  cost_of ls s files = lines_cost means k limits script ls s files

  -- so many lines are done, with this state after them
  pub record HasDone (at : ℕ) (after : State) (here : Seen) (sums : ℕ) : Type 0 where
    pub far : SoFar whole start (in_order doing (drop at lines) after) here
    pub tells : here.tells ≡ start.tells
    pub sound : AreSound (take at lines) (drop at lines)
    pub known : AreNamed after.named (take at lines)
    pub spent : IsTrue start.tells → sums + cost_of (drop at lines) after here.world.files ≤ old + cost_of lines state start.world.files

  pub none_done : AreSound [] lines → HasDone 0 state start old
  none_done sound = record { far = begins whole start; tells = refl; sound = sound; known = none_named state.named; spent = λ told. omega arith }

  -- the next line, which is this one
  module _ (at : ℕ) (l : Line) (after : State) (here : Seen) (sums : ℕ) (inside : at < length lines) (is : get_or lines at l ≡ l) (done : HasDone at after here sums) where
    first : drop at lines ≡ l ∷ drop (at + 1) lines
    first = drop_more lines at l inside ∙ ap (λ (m : Line). m ∷ drop (at + 1) lines) is

    more : take at lines ++ l ∷ [] ≡ take (at + 1) lines
    more = ap (λ (m : Line). take at lines ++ m ∷ []) (sym is) ∙ sym (take_more lines at l inside)

    sound_next : IsSound (take at lines) l.1 × AreSound (take at lines ++ l ∷ []) (drop (at + 1) lines)
    sound_next = subst (AreSound (take at lines)) first done.sound

    pub next_taken : HasTaken after.named l.1
    next_taken = has_taken after.named (take at lines) l.1 done.known sound_next.0

    pub next_numbers : HasNumbers l.1
    next_numbers = sound_next.0.numbers

    -- what the lines from this one on cost
    cost_from : (files : Files) →
        cost_of (drop at lines) after files ≡ step_cost l.1 after.named + cost_after (doing l after files) files (λ b now. cost_of (drop (at + 1) lines) b now)
    cost_from files = ap (λ ls. cost_of ls after files) first

    module _ (there : Seen) (now : ℕ) (most : now ≤ sums + step_cost l.1 after.named) where
      -- the task of its step
      abbrev step : Task Named
      step = step_task (means after.kernels) k limits script l.0 l.1 after.named

      -- it stopped
      pub stops : (why : Why) → Meets step here there (Err why) → Meets whole start there (Err why)
      stops why met =
          let P : Line → Type 0 = λ m. Meets (doing m after) here there (Err why) in
          stops_at whole start here doing lines there at l after why inside done.far
          (subst P (sym is) (meets_stop step (λ n. give (Ok (state_after l.1 after n))) why here there met))

      pub stop_spent : IsTrue start.tells → now ≤ old + cost_of lines state start.world.files
      stop_spent told = omega (arith, most, done.spent told, cost_from here.world.files)

      -- or it was done
      module _ (names : Named) (did_step : Meets step here there (Ok names)) where
        -- the state then
        abbrev b : State
        b = state_after l.1 after names

        met : Meets (doing l after) here there (Ok b)
        met = meets_then step (λ n. give (Ok (state_after l.1 after n))) names (Ok b) here there there did_step (meets_given (Ok b) b there refl)

        after_files : IsTrue start.tells →
            cost_after (doing l after here.world.files) here.world.files (λ b now. cost_of (drop (at + 1) lines) b now) ≡ cost_of (drop (at + 1) lines) b there.world.files
        after_files told =
            let P : Bool → Type 0 = λ t. IsTrue t in
            let did = met.does (subst P (sym done.tells) told) in
            let p = doing l after here.world.files in
            let files : there.world.files ≡ changed_all p.actions here.world.files = ap (λ (w : World). w.files) did.all_done ∙ files_done p.actions here.world in
            ap (λ r. cost_of_value r (λ a. cost_of (drop (at + 1) lines) a (changed_all p.actions here.world.files))) did.gives ∙ ap (cost_of (drop (at + 1) lines) b) (sym files)

        pub line_done : KeepsNames l.1 after.named names → HasDone (at + 1) b there now
        line_done keeps =
            let P : List Line → Type 0 = λ before. AreSound before (drop (at + 1) lines) in
            let Q : List Line → Type 0 = λ before. AreNamed names before in
            let R : Line → Type 0 = λ m. Meets (doing m after) here there (Ok b) in
            record {
              far = goes_on whole start here doing lines there at l after b inside done.far (subst R (sym is) met);
              tells = met.tells ∙ done.tells;
              sound = subst P more sound_next.1;
              known = subst Q more (named_next after.named names (take at lines) l done.known keeps);
              spent = λ told. omega (arith, most, done.spent told, cost_from here.world.files, after_files told);
            }

  -- no line is left
  pub ends : (at : ℕ) (after : State) (here : Seen) (sums : ℕ) → length lines ≤ at → HasDone at after here sums → Meets whole start here (Ok after)
  ends at after here sums past done = all_done whole start here doing lines at after past done.far

  pub end_spent : (at : ℕ) (after : State) (here : Seen) (sums : ℕ) → HasDone at after here sums → IsTrue start.tells → sums ≤ old + cost_of lines state start.world.files
  end_spent at after here sums done told = omega (arith, done.spent told)
