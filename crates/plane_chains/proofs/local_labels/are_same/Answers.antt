use Rattle.plane_chains.proofs.LabelLists.{same_all, same_more}
use Rattle.plane_chains.proofs.local_labels.are_same.Goals as goal

pub loop-number-preserved : goal.loop-number-preserved
loop-number-preserved c =
    same_more c.args.labels.now c.args.numbers.now c.loop-number.number-index c.loop-number-test.true c.if-labels-number.false c.loop-number.invariant

pub returns : goal.returns
returns c = λ t. same_all c.args.labels.now c.args.numbers.now c.loop-number.number-index c.loop-number-test.false c.loop-number.invariant
