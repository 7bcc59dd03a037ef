use Rattle.std.proofs.Common.{◌≡◌, map, take}
use Rattle.chain_terms.specs.Ranks.{start}
use Rattle.plane_chains.specs.EdgeBoxes.{pair_of}
use Rattle.plane_sheets.proofs.walks.walks_of.Given as goal

abbrev pub invariant-loop-round : goal.invariant-loop-round
invariant-loop-round l = l.walks.items ≡ map (map (start (map pair_of l.edges))) (take l.round-index l.round-items)
