use Rattle.plan_laws.proofs.Standing.{regions_fill_side as law}
use Rattle.plan_laws.proofs.laws.regions_fill_side.Goals as goal

pub returns : goal.returns
returns c = law
