use Rattle.std.proofs.Common.{refl}
use Rattle.self_cuts.proofs.Hands.{none_at_hand}
use Rattle.self_cuts.proofs.nearby.Nearby.move_to.Goals as goal

pub returns : goal.returns
returns c = none_at_hand c.args.mesh.now c.box_of_group-self.result 0 _ refl c.clear.ensures.items
