use Rattle.operation_laws.proofs.Results.{operations_are_accepted, results_readable}
use Rattle.operation_laws.proofs.laws.operations_are_readable.Goals as goal

pub returns-clause-accepted : goal.returns-clause-accepted
returns-clause-accepted c = operations_are_accepted (record { accepted = c.fillings_close.ensures.accepted; few = c.fillings_close.ensures.few })

pub returns-clause-readable : goal.returns-clause-readable
returns-clause-readable c = results_readable (record { accepted = c.fillings_close.ensures.accepted; few = c.fillings_close.ensures.few }) c.remeshed_is_given.ensures
