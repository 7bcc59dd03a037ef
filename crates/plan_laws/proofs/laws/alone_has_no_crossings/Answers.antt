use Rattle.plan_laws.proofs.Alone.{alone_has_no_crossings as law}
use Rattle.plan_laws.proofs.laws.alone_has_no_crossings.Goals as goal

pub returns : goal.returns
returns c = law
