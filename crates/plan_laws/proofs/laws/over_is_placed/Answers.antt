use Rattle.plan_laws.proofs.Placed.{over_is_placed as law}
use Rattle.plan_laws.proofs.laws.over_is_placed.Goals as goal

pub returns : goal.returns
returns c = law
