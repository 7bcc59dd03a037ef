use Rattle.plan_laws.proofs.AloneFilled.{alone_fills_itself as law}
use Rattle.plan_laws.proofs.laws.alone_fills_itself.Goals as goal

pub returns : goal.returns
returns c = law
