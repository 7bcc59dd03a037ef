-- What each of some tasks keeps, all of them in order keep.
use Rattle.std.proofs.Common.{◌≡◌, List, [], ◌∷◌, Ok, subst}
use Rattle.std.specs.List.{All}
use Rattle.std.proofs.lemmas.List.Elements.{All-head, All-tail}
use Rattle.run_terms.specs.Runs.{Action}
use Rattle.run_terms.specs.Tasks.{Task, give}
use Rattle.play_laws.specs.Keeping.{Keeps}
use Rattle.play_laws.proofs.Keeping.{keeps_give, keeps_then}
use Rattle.play_terms.specs.Plays.{in_order}

-- a value that is given as it is
pub keeps_value : {A : Type 0} (P : Action → Type 0) (Q : A → Type 0) (a : A) → Q a → Keeps P Q (give (Ok a))
keeps_value P Q a such = keeps_give P Q (Ok a) (λ b is. let same : a ≡ b = cc in subst Q same such)

-- tasks in order, where each of those of such lines keeps it from any value that is such
pub keeps_in_order : {L A : Type 0} (P : Action → Type 0) (Q : A → Type 0) (R : L → Type 0) (task : L → A → Task A) (ls : List L) (a : A)
    → ((l : L) (a : A) → R l → Q a → Keeps P Q (task l a)) → All R ls → Q a → Keeps P Q (in_order task ls a)
keeps_in_order P Q R task [] a each lines such = keeps_value P Q a such
keeps_in_order P Q R task (l ∷ ls) a each lines such =
    keeps_then P Q Q (task l a) (λ b. in_order task ls b) (each l a (All-head R l ls lines) such)
    (λ b then. keeps_in_order P Q R task ls b each (All-tail R l ls lines) then)
