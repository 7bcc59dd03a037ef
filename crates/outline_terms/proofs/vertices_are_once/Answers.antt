use Rattle.outline_terms.proofs.Returning.{no_edge_returns}
use Rattle.outline_terms.proofs.Standing.{one_into, one_out}
use Rattle.outline_terms.proofs.vertices_are_once.Goals as goal

pub returns-clause-vertices : goal.returns-clause-vertices
returns-clause-vertices c = λ n loops moved v low. (one_out n loops moved v low, one_into n loops moved v low)

pub returns-clause-returns : goal.returns-clause-returns
returns-clause-returns c = no_edge_returns
