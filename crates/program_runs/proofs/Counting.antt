-- The sums that a run counts.
use Rattle.std.proofs.Common.{◌≡◌, ◌≤◌, ◌+◌, ◌∙◌, ℕ, ℤ, Bool, IsTrue, List, Option, Some, ap, arith, refl}
use Rattle.mesh_terms.specs.Limits.{Limits}
use Rattle.run_terms.specs.Files.{Bytes, Files}
use Rattle.play_terms.specs.Words.{Command, InsideFile, IsInside, RunScript}
use Rattle.program_runs.specs.Points.{sums_of_point}
use Rattle.program_runs.specs.declared.status.Status.{Status}
use Rattle.program_runs.specs.declared.status.Status.TheVariants as statuses
use Rattle.script_runs.specs.Costs.{script_cost}
use Rattle.script_runs.specs.Operations as operations
use Rattle.program_runs.specs.Running.{IsCounted}

point_once : (status : Status) → sums_of_point status ≤ 1
point_once statuses.Done = omega arith
point_once statuses.Usage = omega arith
point_once statuses.BadScript = omega arith
point_once statuses.MissingFile = omega arith
point_once statuses.BadMesh = omega arith
point_once statuses.Limit = omega arith
point_once statuses.ReadFault = omega arith
point_once statuses.WriteFault = omega arith
point_once statuses.NoMemory = omega arith

point_none : (status : Status) → (status ≡ statuses.Done → ⊥) → (status ≡ statuses.WriteFault → ⊥) → sums_of_point status ≡ 0
point_none statuses.Done done written = absurd (done refl)
point_none statuses.Usage done written = refl
point_none statuses.BadScript done written = refl
point_none statuses.MissingFile done written = refl
point_none statuses.BadMesh done written = refl
point_none statuses.Limit done written = refl
point_none statuses.ReadFault done written = refl
point_none statuses.WriteFault done written = absurd (written refl)
point_none statuses.NoMemory done written = refl

module _ (limits : Limits) (tells : Bool) (files : Files) where
  -- where no sum is counted, no number of a point was said
  pub none_counted : (what : Option Command) (n : ℕ) (status : Status) → (IsInside what → status ≡ statuses.Done → ⊥) → IsCounted limits what tells files n n status
  none_counted what n status other = record {
    copies_uncounted = λ _. refl;
    counted = λ inside done. absurd (other inside done);
    most = λ _. omega arith;
    cost = λ _. omega arith;
    uncounted = λ _ _ _. refl;
  }

  -- a point counts one where its number was found
  pub point_counted : (k : ℕ) (file : Bytes) (point : List ℤ) (before now : ℕ) (status : Status) → now ≡ before + sums_of_point status
      → IsCounted limits (Some (InsideFile k file point)) tells files before now status
  point_counted k file point before now status is = record {
    copies_uncounted = λ copy. let wrong = copy.3 in absurd cc;
    counted = λ _ done. is ∙ ap (λ s. before + sums_of_point s) done;
    most = λ _. omega (arith, is, point_once status);
    cost = λ _. omega (arith, is, point_once status);
    uncounted = λ _ done written. let none = point_none status done written in omega (arith, is, none);
  }

  -- a script what its operations count
  pub script_counted : (k : ℕ) (script : Bytes) (before now : ℕ) (status : Status) → (IsTrue tells → now ≤ before + script_cost operations.meanings k limits script files)
      → IsCounted limits (Some (RunScript k script)) tells files before now status
  script_counted k script before now status few = record {
    copies_uncounted = λ copy. let wrong = copy.3 in absurd cc;
    counted = λ inside _. let wrong = inside.3 in absurd cc;
    most = λ other. absurd (other (k, script, refl));
    cost = few;
    uncounted = λ other _ _. absurd (other (k, script, refl));
  }
