use Rattle.outline_pair_terms.proofs.Conserved.{edges_conserve, edges_conserve_back}
use Rattle.outline_pair_terms.proofs.edges_conserve.Goals as goal

pub returns-clause-there : goal.returns-clause-there
returns-clause-there c = edges_conserve

pub returns-clause-back : goal.returns-clause-back
returns-clause-back c = edges_conserve_back
