use Rattle.self_cuts.proofs.Hands.{none_at_hand}
use Rattle.self_cuts.proofs.cuts.cuts.Goals as goal

pub cuts_of-requires-clause-near : goal.cuts_of-requires-clause-near
cuts_of-requires-clause-near c = none_at_hand c.args.mesh.now c.none-near.result.area _ _ c.none-near.ensures.end c.none-near.ensures.seen
