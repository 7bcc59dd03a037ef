use Rattle.std.proofs.Common.{get_or, sym}
use Rattle.plane_chains.proofs.PairLists.{edge_is}
use Rattle.plane_chains.proofs.telling.first_edge.Goals as goal

pub returns : goal.returns
returns c = sym (edge_is c.args.edges.now (get_or c.args.pair 0 0) c.requires)
