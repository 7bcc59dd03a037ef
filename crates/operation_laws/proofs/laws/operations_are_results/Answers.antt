use Rattle.inspection_laws.proofs.Counted.{cuts_are_counted}
use Rattle.operation_laws.proofs.Results.{operations_are_results, scripts_give_results, scripts_remesh}
use Rattle.operation_laws.proofs.laws.operations_are_results.Goals as goal

pub returns-clause-results : goal.returns-clause-results
returns-clause-results c = operations_are_results (record { accepted = c.fillings_close.ensures.accepted; few = c.fillings_close.ensures.few }) c.faces_are_filled.ensures.filled

pub returns-clause-scripts : goal.returns-clause-scripts
returns-clause-scripts c =
    scripts_give_results (record { accepted = c.fillings_close.ensures.accepted; few = c.fillings_close.ensures.few })
    c.faces_are_filled.ensures.filled c.remeshed_is_given.ensures

pub returns-clause-remeshed : goal.returns-clause-remeshed
returns-clause-remeshed c =
    scripts_remesh (record { accepted = c.fillings_close.ensures.accepted; few = c.fillings_close.ensures.few })
    c.planes_are_kept.ensures c.regions_turn_left.ensures c.planes_do_not_fold.ensures c.remeshed_is_given.ensures

pub returns-clause-inspected : goal.returns-clause-inspected
returns-clause-inspected c kernels m = cuts_are_counted m
