use Rattle.plan_laws.proofs.Sorting.{sorted_alike as law}
use Rattle.plan_laws.proofs.laws.sorted_alike.Goals as goal

pub returns : goal.returns
returns c = law
