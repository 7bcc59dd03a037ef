use Rattle.std.proofs.Common.{arith}
use Rattle.halfedge.proofs.Starts.{triangle_edge}
use Rattle.halfedge.proofs.ways.ends.Goals as goal

pub returns-in-0 : goal.returns-in-0
returns-in-0 c = triangle_edge c.args.triples.now c.args.half 0 c.requires c.in-0.is

pub returns-in-1 : goal.returns-in-1
returns-in-1 c = triangle_edge c.args.triples.now c.args.half 1 c.requires c.in-1.is

pub returns-in_default : goal.returns-in_default
returns-in_default c = triangle_edge c.args.triples.now c.args.half 2 c.requires (omega (arith, c.in_default))
