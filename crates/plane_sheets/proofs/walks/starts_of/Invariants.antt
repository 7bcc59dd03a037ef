use Rattle.std.proofs.Common.{◌≡◌, map, take}
use Rattle.chain_terms.specs.Ranks.{start}
use Rattle.plane_chains.specs.EdgeBoxes.{pair_of}
use Rattle.plane_sheets.proofs.walks.starts_of.Given as goal

abbrev pub invariant-loop-number : goal.invariant-loop-number
invariant-loop-number l = l.starts.items ≡ map (start (map pair_of l.edges)) (take l.number-index l.numbers)
