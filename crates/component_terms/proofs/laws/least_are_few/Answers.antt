use Rattle.component_terms.proofs.Counted.{few}
use Rattle.component_terms.proofs.laws.least_are_few.Goals as goal

pub returns : goal.returns
returns c = few
