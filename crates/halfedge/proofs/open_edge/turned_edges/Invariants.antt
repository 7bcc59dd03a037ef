use Rattle.std.proofs.Common.{◌≡◌, take, map}
use Rattle.halfedge.specs.Pairing.{turned}
use Rattle.halfedge.proofs.open_edge.turned_edges.Given as goal

abbrev pub invariant-loop-from : goal.invariant-loop-from
invariant-loop-from l = l.back.items ≡ map turned (take l.from-index l.edges)
