use Rattle.std.proofs.Common.{◌≡◌, map, take}
use Rattle.cross_section.specs.Order.{edge_in}
use Rattle.cross_section.proofs.numbers.order.with_places.Given as goal

abbrev pub invariant-loop-edge : goal.invariant-loop-edge
invariant-loop-edge l = map edge_in l.all.items ≡ take l.edge-index l.edges
