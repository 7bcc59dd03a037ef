use Rattle.std.proofs.Common.{refl}
use Rattle.mesh_files.proofs.stop.StopFromTextFault.from.Goals as goal

pub returns-in-Over : goal.returns-in-Over
returns-in-Over c = rw c.in-Over.is refl
