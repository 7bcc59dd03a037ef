use Rattle.plan_laws.proofs.Twice.{welds_once as law}
use Rattle.plan_laws.proofs.laws.welds_once.Goals as goal

pub returns : goal.returns
returns c = law
