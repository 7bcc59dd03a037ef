use Rattle.std.proofs.Common.{refl, arith}
use Rattle.halfedge.proofs.Numbers.{numbered_step}
use Rattle.halfedge.proofs.open_edge.numbered_edges.Goals as goal

pub loop-a-preserved : goal.loop-a-preserved
loop-a-preserved c =
    let inv = c.loop-a.invariant in
    record {
      items = numbered_step c.args.triples.now c.loop-a.a-index _ _ _ _ _ _ c.loop-a-test.true refl inv.half inv.items
          c.in_ok-extend_from_slice.ensures.items;
      half = omega (arith, inv.half);
    }
