use Rattle.std.proofs.Common.{◌≡◌, false, length, arith, ap, sym, ◌∙◌, inl, inr}
use Rattle.std.proofs.lemmas.Bool.{cases_lt}
use Rattle.ring_cutting.proofs.FirstPlaces.{first_place, no_place}
use Rattle.sheet_terms.specs.Filled.{looks_right}
use Rattle.plane_filling.specs.Begun.{seen_in}
use Rattle.plane_filling.proofs.starts.hole_beginning.Goals as goal

pub returns-then-looks_right-clause-value : goal.returns-then-looks_right-clause-value
returns-then-looks_right-clause-value c =
    let walk = c.args.walk.now in
    sym (first_place (looks_right (seen_in c.args.flat.now) walk) (length walk) c.loop-i.i c.loop-i-test.true c.loop-i.invariant
    (sym c.looks_right.ensures ∙ c.if-looks_right.true))

pub returns-clause-value : goal.returns-clause-value
returns-clause-value c =
    let walk = c.args.walk.now in
    sym (no_place (looks_right (seen_in c.args.flat.now) walk) (length walk) (λ k h. c.loop-i.invariant k (omega (arith, h, c.loop-i-test.false))))

pub loop-i-preserved : goal.loop-i-preserved
loop-i-preserved c k h =
    let test = looks_right (seen_in c.args.flat.now) c.args.walk.now in
    elim (cases_lt k c.loop-i.i) as (λ _. test k ≡ false) [
      | inl low ↦ c.loop-i.invariant k low
      | inr high ↦ let same : k ≡ c.loop-i.i = omega (arith, h, high) in ap test same ∙ sym c.looks_right.ensures ∙ c.if-looks_right.false
    ]
