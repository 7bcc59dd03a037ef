-- How far a task has come.
use Rattle.std.specs.Prelude.{◌≡◌, Result}
use Rattle.run_terms.specs.Meets.{Why, Seen, Meets}
use Rattle.run_terms.specs.Tasks.{Task}

-- no count rose since the start, and however the rest ends from here, the whole ends so from the start
pub record SoFar {A : Type 0} (whole : Task A) (start : Seen) (rest : Task A) (here : Seen) : Type 0 where
  pub calm : here.faults ≡ start.faults
  pub ends : (now : Seen) (r : Result A Why) → Meets rest here now r → Meets whole start now r
