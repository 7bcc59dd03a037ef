use Rattle.std.proofs.Common.{◌≡◌, map, take}
use Rattle.cross_section.specs.Order.{edge_in}
use Rattle.cross_section.proofs.numbers.order.edges_in.Given as goal

abbrev pub invariant-loop-edge : goal.invariant-loop-edge
invariant-loop-edge l = l.edges.items ≡ map edge_in (take l.edge-index l.order)
