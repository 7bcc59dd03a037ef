use Rattle.plan_laws.proofs.Placed.{faces_are_in_order as law}
use Rattle.plan_laws.proofs.laws.faces_are_in_order.Goals as goal

pub returns : goal.returns
returns c = law
