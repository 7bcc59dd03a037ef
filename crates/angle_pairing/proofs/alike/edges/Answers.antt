use Rattle.std.proofs.Common.{refl}
use Rattle.angle_pairing.proofs.Lists.{edges_step}
use Rattle.angle_pairing.proofs.alike.edges.Goals as goal

pub loop-a-preserved : goal.loop-a-preserved
loop-a-preserved c =
    edges_step c.args.triples.now c.loop-a.a-index _ _ _ _ _ c.loop-a-test.true refl c.loop-a.invariant c.in_ok-extend_from_slice.ensures.items
