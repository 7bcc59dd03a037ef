use Rattle.std.proofs.Common.{map, ap, ◌∙◌, arith}
use Rattle.edge_pairing.specs.Entries.{edge_of}
use Rattle.edge_pairing.proofs.Paired.{joined_more, joined_all}
use Rattle.edge_pairing.proofs.pairs.joined.Goals as goal

pub loop-i-preserved : goal.loop-i-preserved
loop-i-preserved c =
    ap (map edge_of) c.in_ok-push.ensures.ok
    ∙ joined_more c.args.starts.now c.args.ends.now c.loop-i.i c.loop-i.segments.items c.loop-i-test.true (omega (arith, c.requires, c.loop-i-test.true)) c.loop-i.invariant

pub returns : goal.returns
returns c = joined_all c.args.starts.now c.args.ends.now c.loop-i.i c.loop-i.segments.items (omega (arith, c.loop-i-test.false)) c.loop-i.invariant
