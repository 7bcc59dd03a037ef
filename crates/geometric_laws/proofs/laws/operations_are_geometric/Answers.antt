use Rattle.geometric_laws.proofs.Geometric.{operations_are_geometric, scripts_are_geometric}
use Rattle.geometric_laws.proofs.laws.operations_are_geometric.Goals as goal

pub returns-clause-meshes : goal.returns-clause-meshes
returns-clause-meshes c = operations_are_geometric

pub returns-clause-scripts : goal.returns-clause-scripts
returns-clause-scripts c =
    scripts_are_geometric (record { accepted = c.fillings_close.ensures.accepted; few = c.fillings_close.ensures.few }) c.remeshed_is_given.ensures
