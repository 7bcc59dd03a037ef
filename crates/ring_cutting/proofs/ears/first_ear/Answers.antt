use Rattle.std.proofs.Common.{◌≡◌, false, length, sym, ◌∙◌, arith}
use borrow.Author.Count.{below_more}
use Rattle.ring_cutting.specs.Cuts.{is_ear}
use Rattle.ring_cutting.specs.Placed.{vertices_of}
use Rattle.ring_cutting.proofs.FirstPlaces.{first_is, first_none}
use Rattle.ring_cutting.proofs.ears.first_ear.Goals as goal

pub loop-i-init : goal.loop-i-init
loop-i-init c = λ at placed k low. absurd (omega (arith, low))

pub loop-i-preserved : goal.loop-i-preserved
loop-i-preserved c = λ at placed.
    below_more (λ k. is_ear at (vertices_of c.args.places.now) k ≡ false) c.loop-i.i (c.loop-i.invariant at placed)
    (sym (c.is_ear.ensures.value at placed) ∙ c.if-is_ear.false)

pub returns-then-is_ear-clause-value : goal.returns-then-is_ear-clause-value
returns-then-is_ear-clause-value c = λ at placed.
    sym (first_is (is_ear at (vertices_of c.args.places.now)) (length c.args.places.now) c.loop-i.i c.loop-i-test.true
    (c.loop-i.invariant at placed) (sym (c.is_ear.ensures.value at placed) ∙ c.if-is_ear.true))

pub returns-clause-value : goal.returns-clause-value
returns-clause-value c = λ at placed.
    sym (first_none (is_ear at (vertices_of c.args.places.now)) (length c.args.places.now)
    (λ k low. c.loop-i.invariant at placed k (omega (arith, low, c.loop-i-test.false))))
