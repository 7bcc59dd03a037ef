use Rattle.std.proofs.Common.{◌≡◌, ℕ, Bool, true, false, List, ◌∷◌, sym, ap, ◌∙◌, arith}
use Rattle.std.specs.Prelude.{nat_lt, if◌then◌else◌}
use Rattle.std.proofs.lemmas.Bool.Decides.{nat_tests}
use Rattle.obj_text.specs.Plain.{carry_by}
use Rattle.obj_text.proofs.decimals.carry_by.Goals as goal

-- the first of the digits decides
by_first : (digit : ℕ) (lost rest : List ℕ) (below : Bool) → lost ≡ digit ∷ rest → nat_lt digit 53 ≡ below → (if below then 0 else 1) ≡ carry_by lost
by_first digit lost rest below is test = sym (ap carry_by is ∙ ap (λ (b : Bool). if b then 0 else 1) test)

pub returns-in-Some-clause-value : goal.returns-in-Some-clause-value
returns-in-Some-clause-value c =
    let test : nat_lt c.in-Some.digit.now 53 ≡ false = grind (arith, nat_tests, c.if-digit-ge53.true) in
    by_first c.in-Some.digit.now c.args.lost.now c.in-Some.field-0-1.now false c.in-Some.ensures.cases.0 test

pub returns-in_default-clause-value : goal.returns-in_default-clause-value
returns-in_default-clause-value c =
    let test : nat_lt c.in-Some.digit.now 53 ≡ true = grind (arith, nat_tests, c.if-digit-ge53.false) in
    by_first c.in-Some.digit.now c.args.lost.now c.in-Some.field-0-1.now true c.in-Some.ensures.cases.0 test
