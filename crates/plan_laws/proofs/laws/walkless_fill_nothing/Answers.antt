use Rattle.plan_laws.proofs.Ordered.{walkless_fill_nothing as law}
use Rattle.plan_laws.proofs.laws.walkless_fill_nothing.Goals as goal

pub returns : goal.returns
returns c = law
