use Rattle.plan_laws.proofs.Standing.{alone_fills_side as law}
use Rattle.plan_laws.proofs.laws.alone_fills_side.Goals as goal

pub returns : goal.returns
returns c = law
