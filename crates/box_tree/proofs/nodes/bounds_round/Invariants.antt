use Rattle.std.specs.Prelude.{take}
use Rattle.box_tree.specs.Nodes.{IsRound}
use Rattle.box_tree.proofs.nodes.bounds_round.Given as goal

abbrev pub invariant-loop-entry : goal.invariant-loop-entry
invariant-loop-entry l = IsRound l.bounds (take l.entry-index l.entries)
