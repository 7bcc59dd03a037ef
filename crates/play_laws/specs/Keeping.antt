-- What holds of all actions of a task, whatever the files.
use Rattle.std.specs.Prelude.{◌≡◌, All, Ok}
use Rattle.run_terms.specs.Files.{Files}
use Rattle.run_terms.specs.Runs.{Action}
use Rattle.run_terms.specs.Tasks.{Task}

-- whatever the files, each action is such, and so is the value where there is one
pub record Keeps {A : Type 0} (P : Action → Type 0) (Q : A → Type 0) (t : Task A) : Type 0 where
  pub actions : (files : Files) → All P (t files).actions
  pub value : (files : Files) (a : A) → (t files).result ≡ Ok a → Q a
