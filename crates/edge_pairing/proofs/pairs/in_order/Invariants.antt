use Rattle.std.proofs.Common.{◌≡◌, map, take}
use Rattle.edge_pairing.specs.Entries.{chosen, place_in}
use Rattle.edge_pairing.specs.Keys.{keyed_by, key_along}
use Rattle.edge_pairing.proofs.pairs.in_order.Given as goal

abbrev pub invariant-loop-entry : goal.invariant-loop-entry
invariant-loop-entry l = l.order.items ≡ map (keyed_by (key_along l.along (place_in l.points))) (chosen l.start (take l.entry-index l.entries))
