use Rattle.halfedge.proofs.TwinWays.{same_length}
use Rattle.halfedge.proofs.pairing.pair_ways.Goals as goal

pub pair_up-requires-clause-same_length : goal.pair_up-requires-clause-same_length
pair_up-requires-clause-same_length c = same_length c.args.ups.now c.args.downs.now (c.run_alike.ensures.0 c.if-not-run_alike.false)
