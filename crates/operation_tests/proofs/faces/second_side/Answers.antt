use Rattle.std.proofs.Common.{subst, sym}
use Rattle.mesh_check.specs.Reduced.{NoOpposite}
use Rattle.operation_tests.proofs.faces.second_side.Goals as goal

pub returns : goal.returns
returns c = subst NoOpposite (sym c.in_ok-side.ensures) c.in_ok-reduced.ensures.apart
