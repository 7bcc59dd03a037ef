use Rattle.std.proofs.Common.{arith, ap, length}
use Rattle.halfedge.proofs.Edges.{length-all_edges}
use Rattle.winding.proofs.walk.finish.Goals as goal

pub next-requires : goal.next-requires
next-requires c = omega (arith, c.requires, length-all_edges c.args.side.now.triples, ap length c.twins.ensures.triples)
