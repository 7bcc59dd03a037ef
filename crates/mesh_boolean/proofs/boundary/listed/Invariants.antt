use Rattle.std.proofs.Common.{◌≡◌, ◌++◌, map, take}
use Rattle.chain_terms.specs.Odd.{backward}
use Rattle.edge_pairing.specs.Entries.{edge_of}
use Rattle.mesh_boolean.proofs.boundary.listed.Given as goal

abbrev pub invariant-loop-segment : goal.invariant-loop-segment
invariant-loop-segment l = l.all.items ≡ map edge_of (take l.segment-index l.ones)

abbrev pub invariant-loop-segment-2 : goal.invariant-loop-segment-2
invariant-loop-segment-2 l = l.all.items ≡ map edge_of l.ones ++ backward (map edge_of (take l.segment-index l.others))
