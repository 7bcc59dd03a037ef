-- A loop over tasks in order.
use Rattle.std.proofs.Common.{◌≡◌, ℕ, ◌+◌, ◌<◌, ◌≤◌, List, length, get_or, drop, Result, Ok, Err, ap, subst, ◌∙◌, refl}
use Rattle.std.proofs.Math.ListN.{drop_of_length-le}
use Rattle.std.proofs.lemmas.List.{drop_more}
use Rattle.run_terms.specs.Meets.{Why, Seen, Meets}
use Rattle.run_terms.specs.Tasks.{Task, give, then_task}
use Rattle.play_laws.proofs.Tasks.{meets_given, meets_then, meets_stop}
use Rattle.play_terms.specs.Plays.{in_order}
use Rattle.play_laws.specs.SoFar.{SoFar}

-- at the start the rest is the whole
pub begins : {A : Type 0} (whole : Task A) (start : Seen) → SoFar whole start whole start
begins whole start = record { calm = refl; ends = λ now r met. met }

module _ {L A : Type 0} (whole : Task A) (start here : Seen) (task : L → A → Task A) (ls : List L) where
  -- the next task with those after it
  next_first : (at : ℕ) (d : L) (a : A) → at < length ls → in_order task (drop at ls) a ≡ then_task (task (get_or ls at d) a) (λ b. in_order task (drop (at + 1) ls) b)
  next_first at d a inside = ap (λ (rest : List L). in_order task rest a) (drop_more ls at d inside)

  -- a task more was met, and gave a value
  pub goes_on : (there : Seen) (at : ℕ) (d : L) (a b : A) → at < length ls → SoFar whole start (in_order task (drop at ls) a) here
      → Meets (task (get_or ls at d) a) here there (Ok b) → SoFar whole start (in_order task (drop (at + 1) ls) b) there
  goes_on there at d a b inside far met =
      let P : Task A → Type 0 = λ t. (now : Seen) (r : Result A Why) → Meets t here now r → Meets whole start now r in
      let ends = subst P (next_first at d a inside) far.ends in
      record {
        calm = met.faults ∙ far.calm;
        ends = λ now r rest. ends now r (meets_then (task (get_or ls at d) a) (λ b. in_order task (drop (at + 1) ls) b) b r here there now met rest);
      }

  -- a task more stopped: so did the whole
  pub stops_at : (there : Seen) (at : ℕ) (d : L) (a : A) (why : Why) → at < length ls → SoFar whole start (in_order task (drop at ls) a) here
      → Meets (task (get_or ls at d) a) here there (Err why) → Meets whole start there (Err why)
  stops_at there at d a why inside far met =
      let P : Task A → Type 0 = λ t. (now : Seen) (r : Result A Why) → Meets t here now r → Meets whole start now r in
      subst P (next_first at d a inside) far.ends there (Err why) (meets_stop (task (get_or ls at d) a) (λ b. in_order task (drop (at + 1) ls) b) why here there met)

  -- no task is left: the whole gave the value
  pub all_done : (at : ℕ) (a : A) → length ls ≤ at → SoFar whole start (in_order task (drop at ls) a) here → Meets whole start here (Ok a)
  all_done at a past far =
      let P : Task A → Type 0 = λ t. (now : Seen) (r : Result A Why) → Meets t here now r → Meets whole start now r in
      let last : in_order task (drop at ls) a ≡ give (Ok a) = ap (λ (rest : List L). in_order task rest a) (drop_of_length-le ls past) in
      subst P last far.ends here (Ok a) (meets_given (Ok a) a here refl)
