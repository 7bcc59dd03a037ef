use Rattle.std.proofs.lemmas.Result.{IfOk-weaker}
use Rattle.exact_kernels.specs.Exact.{exact}
use Rattle.geometric_laws.proofs.Geometric.{operations_are_geometric}
use Rattle.geometric_laws.specs.Outcomes.{IsGeometricOutcome}
use Rattle.mesh_boolean.specs.Operation.{operation}
use Rattle.mesh_boolean.specs.Results.{IsPrescribed}
use Rattle.operation_laws.specs.Kernels.{tests_of}
use Rattle.geometric_laws.proofs.calls.exact_boolean.Goals as goal

pub returns : goal.returns
returns g c =
    let w = g.R.Rounding.between_of c.args.kernels.now.rounding in
    let settle = g.R.Rounding.settle_of c.args.kernels.now.rounding in
    let op = c.args.op in
    let p = c.args.p.now in
    let q = c.args.q.now in
    let tests = tests_of exact w settle in
    record {
      geometric = IfOk-weaker c.boolean.result (IsPrescribed tests op p q) (IsGeometricOutcome op p q) (λ r these. record {
        copies = (operation tests op p q).copies;
        origins = these.origins;
        points = these.points;
        geometric = operations_are_geometric w settle op p q c.read.ensures c.read-2.ensures;
      }) c.boolean.ensures.prescribed;
    }
