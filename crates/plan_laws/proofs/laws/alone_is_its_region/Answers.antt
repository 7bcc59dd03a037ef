use Rattle.plan_laws.proofs.Alone.{alone_is_its_region as law}
use Rattle.plan_laws.proofs.laws.alone_is_its_region.Goals as goal

pub returns : goal.returns
returns c = law
