use Rattle.std.proofs.Common.{◌≡◌, map}
use Rattle.chain_terms.specs.Sums.{upto}
use Rattle.plane_chains.specs.EdgeBoxes.{pair_of}
use Rattle.sheet_terms.specs.Walks.{follower}
use Rattle.plane_sheets.specs.Seen.{seen_in}
use Rattle.plane_sheets.proofs.followers.followers.Given as goal

abbrev pub invariant-loop-i : goal.invariant-loop-i
invariant-loop-i l = l.next.items ≡ map (follower (seen_in l.flat) (map pair_of l.edges)) (upto l.i)
