use Rattle.std.proofs.Common.{◌≡◌, ◌++◌, drop}
use Rattle.hole_joining.proofs.Rounds.{round_from}
use Rattle.hole_joining.proofs.edges.push_round_from.Given as goal

abbrev pub invariant-loop-vertex : goal.invariant-loop-vertex
invariant-loop-vertex l =
    l.edges.items ++ round_from l.first l.last (drop l.vertex-index l.rest) ≡ l.fn.edges.items ++ round_from l.first l.first l.rest
