use Rattle.std.proofs.Common.{arith}
use Rattle.std.proofs.lemmas.List.Elements.{All-more}
use Rattle.angle_pairing.specs.Gathered.{IsPairBelow}
use Rattle.angle_pairing.proofs.Firsts.{below_all, still_below}
use Rattle.angle_pairing.proofs.alike.bound.Goals as goal

pub loop-start-preserved : goal.loop-start-preserved
loop-start-preserved c =
    let pairs = c.args.pairs.now in
    let i = c.loop-start.start-index in
    let one = c.max.ensures in
    let two = c.max-bound.ensures in
    All-more (IsPairBelow c.max-bound.result) pairs i (0, 0) c.loop-start-test.true
    (still_below c.loop-start.bound c.max-bound.result _ (omega (arith, one, two)) c.loop-start.invariant)
    (omega (arith, one, two), omega (arith, two))

pub returns : goal.returns
returns c =
    below_all c.args.pairs.now c.loop-start.start-index c.loop-start.bound (omega (arith, c.loop-start-test.false)) c.loop-start.invariant
