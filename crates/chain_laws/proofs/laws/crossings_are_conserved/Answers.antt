use Rattle.chain_laws.proofs.Identities.{edge_identity, pair_identity}
use Rattle.chain_laws.proofs.laws.crossings_are_conserved.Goals as goal

pub returns-clause-edges : goal.returns-clause-edges
returns-clause-edges c = edge_identity

pub returns-clause-pairs : goal.returns-clause-pairs
returns-clause-pairs c = pair_identity
