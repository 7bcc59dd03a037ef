use Rattle.chain_laws.specs.Chains.{sums_from_closed, closed_from_sums}
use Rattle.chain_laws.specs.Triples.{closed-renamed_triples}
use Rattle.chain_laws.proofs.laws.odd_sums_vanish.Goals as goal

pub returns-clause-closed : goal.returns-clause-closed
returns-clause-closed c = λ es. (sums_from_closed es, closed_from_sums es)

pub returns-clause-renamed : goal.returns-clause-renamed
returns-clause-renamed c = closed-renamed_triples
