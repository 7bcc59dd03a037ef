use Rattle.plan_laws.proofs.Sorting.{boundaries_are_tested as law}
use Rattle.plan_laws.proofs.laws.boundaries_are_tested.Goals as goal

pub returns : goal.returns
returns c = law
