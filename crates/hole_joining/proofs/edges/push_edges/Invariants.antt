use Rattle.std.proofs.Common.{◌≡◌, ◌++◌, drop}
use Rattle.hole_joining.specs.Bridges.{edges_of}
use Rattle.hole_joining.proofs.edges.push_edges.Given as goal

abbrev pub invariant-loop-one : goal.invariant-loop-one
invariant-loop-one l = l.edges.items ++ edges_of (drop l.one-index l.loops) ≡ l.fn.edges.items ++ edges_of l.loops
