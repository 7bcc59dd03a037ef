use Rattle.std.proofs.Common.{◌≡◌, length, ◌+◌}
use Rattle.loop_ring.specs.Circles.{IsChain}
use Rattle.loop_ring.proofs.ring.free_all.Given as goal

abbrev pub invariant-loop : goal.invariant-loop
invariant-loop l = (l.counter + length l.nodes.list ≡ l.len) × IsChain l.at l.nodes.list
