use Rattle.component_terms.proofs.Counted.{reached, only}
use Rattle.component_terms.proofs.laws.components_are_counted.Goals as goal

pub returns-clause-reached : goal.returns-clause-reached
returns-clause-reached c = reached

pub returns-clause-only : goal.returns-clause-only
returns-clause-only c = only
