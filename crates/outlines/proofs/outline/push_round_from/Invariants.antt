use Rattle.std.proofs.Common.{◌≡◌, ◌++◌, drop}
use Rattle.outlines.proofs.Rounds.{round_from}
use Rattle.outlines.proofs.outline.push_round_from.Given as goal

abbrev pub invariant-loop-to : goal.invariant-loop-to
invariant-loop-to l = l.edges.items ++ round_from l.first l.from (drop l.to-index l.rest) ≡ l.fn.edges.items ++ round_from l.first l.first l.rest
