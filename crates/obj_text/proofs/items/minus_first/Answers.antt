use Rattle.std.proofs.Common.{◌≡◌, ℕ, Bool, true, List, ◌∷◌, refl, sym, ap, ◌∙◌}
use Rattle.format_terms.specs.ObjFaces.{minus_first}
use Rattle.obj_text.proofs.items.minus_first.Goals as goal

-- a word that begins with -
with_minus : (first : ℕ) (word rest : List ℕ) → word ≡ first ∷ rest → first ≡ 45 → minus_first word ≡ (true, rest)
with_minus first word rest is minus = ap minus_first is ∙ rw minus refl

pub returns-in-Some-eq45-default-clause-sign : goal.returns-in-Some-eq45-default-clause-sign
returns-in-Some-eq45-default-clause-sign c =
    let a = c.in-Some-eq45-default in
    sym (ap (λ (r : Bool × List ℕ). r.0) (with_minus a.field-0-0.now c.args.word.now a.rest.now a.ensures.cases.0 a.field-0-0-test))

pub returns-in-Some-eq45-default-clause-rest : goal.returns-in-Some-eq45-default-clause-rest
returns-in-Some-eq45-default-clause-rest c =
    let a = c.in-Some-eq45-default in
    sym (ap (λ (r : Bool × List ℕ). r.1) (with_minus a.field-0-0.now c.args.word.now a.rest.now a.ensures.cases.0 a.field-0-0-test))
