use Rattle.plan_laws.proofs.Ordered.{filled_by_firsts as law}
use Rattle.plan_laws.proofs.laws.filled_by_firsts.Goals as goal

pub returns : goal.returns
returns c = law
