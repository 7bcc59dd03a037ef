use Rattle.std.proofs.Common.{map}
use Rattle.plane_chains.specs.EdgeBoxes.{pair_of}
use Rattle.sheet_terms.specs.Walks.{follower}
use Rattle.plane_sheets.specs.Seen.{seen_in}
use Rattle.plane_sheets.proofs.Following.{listed_more}
use Rattle.plane_sheets.proofs.followers.followers.Goals as goal

pub loop-i-preserved : goal.loop-i-preserved
loop-i-preserved c =
    listed_more (follower (seen_in c.args.flat) (map pair_of c.args.edges.now)) c.loop-i.next.items c.push.new.self.items c.loop-i.i c.follower.result
    c.loop-i.invariant c.follower.ensures c.in_ok-push.ensures.items
