-- What all actions of a task keep, for tasks one after the other.
use Rattle.std.proofs.Common.{◌≡◌, List, [], Result, Ok, Err, All, refl}
use Rattle.std.proofs.lemmas.List.Elements.{All-nil, All-cons, All-append}
use Rattle.run_terms.specs.Runs.{Action}
use Rattle.run_terms.specs.Tasks.{Refusal, Part, Task, changed_all, give, act, joined, then_task}
use Rattle.play_laws.specs.Keeping.{Keeps}

-- without an action the value alone counts
pub keeps_give : {A : Type 0} (P : Action → Type 0) (Q : A → Type 0) (result : Result A Refusal) → ((a : A) → result ≡ Ok a → Q a) → Keeps P Q (give result)
keeps_give P Q result such = record { actions = λ files. All-nil P; value = λ files a is. such a is }

-- one action
pub keeps_act : (P : Action → Type 0) (a : Action) → P a → Keeps P (λ _. Unit {0}) (act a)
keeps_act P a such = record { actions = λ files. All-cons P a [] such (All-nil P); value = λ files v is. tt }

-- the actions of both
joined_actions : {A B : Type 0} (P : Action → Type 0) (xs : List Action) (r : Result A Refusal) (next : A → Part B)
    → All P xs → ((a : A) → r ≡ Ok a → All P (next a).actions) → All P (joined xs r next).actions
joined_actions P xs (Err why) next first later = first
joined_actions P xs (Ok a) next first later = All-append P xs (next a).actions first (later a refl)

-- the value of the second
joined_value : {A B : Type 0} (R : B → Type 0) (xs : List Action) (r : Result A Refusal) (next : A → Part B) (b : B)
    → ((a : A) → r ≡ Ok a → (next a).result ≡ Ok b → R b) → (joined xs r next).result ≡ Ok b → R b
joined_value R xs (Err why) next b later is = cc
joined_value R xs (Ok a) next b later is = later a refl is

-- a task that keeps it and another that does: so do the two
pub keeps_then : {A B : Type 0} (P : Action → Type 0) (Q : A → Type 0) (R : B → Type 0) (t : Task A) (next : A → Task B)
    → Keeps P Q t → ((a : A) → Q a → Keeps P R (next a)) → Keeps P R (then_task t next)
keeps_then P Q R t next first later =
    record {
      actions = λ files.
          let p = t files in
          joined_actions P p.actions p.result (λ a. next a (changed_all p.actions files)) (first.actions files)
          (λ a is. (later a (first.value files a is)).actions (changed_all p.actions files));
      value = λ files b.
          let p = t files in
          joined_value R p.actions p.result (λ a. next a (changed_all p.actions files)) b
          (λ a is. (later a (first.value files a is)).value (changed_all p.actions files) b);
    }
