use Rattle.std.proofs.Common.{sym, subst}
use Rattle.mesh_check.specs.Reduced.{NoOpposite}
use Rattle.operation_tests.proofs.faces.first_side.Goals as goal

pub returns : goal.returns
returns c = subst NoOpposite (sym c.in_ok-side.ensures) c.in_ok-reduced.ensures.apart
