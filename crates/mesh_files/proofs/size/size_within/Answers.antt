use Rattle.std.proofs.Common.{refl}
use Rattle.mesh_files.proofs.size.size_within.Goals as goal

pub returns-in_default-clause-stop : goal.returns-in_default-clause-stop
returns-in_default-clause-stop c = rw c.in_default.is refl

pub returns-then-size-most-clause-stop : goal.returns-then-size-most-clause-stop
returns-then-size-most-clause-stop c = rw c.in-Some.is (refl, c.if-size-most.true)
