use Rattle.std.proofs.Common.{sym}
use Rattle.halfedge.proofs.Starts.{start_read}
use Rattle.halfedge.proofs.halves.start.Goals as goal

pub returns : goal.returns
returns c = sym (start_read c.args.triples.now c.args.half c.requires)
