use Rattle.plan_laws.proofs.Placed.{faces_are_placed as law}
use Rattle.plan_laws.proofs.laws.faces_are_placed.Goals as goal

pub returns : goal.returns
returns c = law
