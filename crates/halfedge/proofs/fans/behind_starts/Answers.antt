use Rattle.std.proofs.Common.{refl, arith}
use Rattle.halfedge.proofs.Numbers.{by_starts_step}
use Rattle.halfedge.proofs.fans.behind_starts.Goals as goal

pub loop-a-preserved : goal.loop-a-preserved
loop-a-preserved c =
    let inv = c.loop-a.invariant in
    record {
      items = by_starts_step c.args.triples.now c.loop-a.a-index _ _ _ _ _ _ c.loop-a-test.true refl inv.half inv.items
          c.in_ok-extend_from_slice.ensures.items;
      half = omega (arith, inv.half);
    }
