use Rattle.plan_laws.proofs.Needless.{needless_by_edges as law}
use Rattle.plan_laws.proofs.laws.needless_by_edges.Goals as goal

pub returns : goal.returns
returns c = law
