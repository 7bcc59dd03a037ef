use Rattle.plane_chains.proofs.LabelLists.{IsFilled}
use Rattle.plane_chains.proofs.local_labels.LocalLabels.each.Given as goal

abbrev pub invariant-loop-number : goal.invariant-loop-number
invariant-loop-number l = IsFilled l.labels l.numbers l.number-index l.seen.keys l.of.items l.firsts.items
