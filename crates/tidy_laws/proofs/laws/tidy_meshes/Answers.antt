use Rattle.tidy_laws.proofs.TidyMeshes.{tidy_meshes}
use Rattle.tidy_laws.proofs.laws.tidy_meshes.Goals as goal

pub returns : goal.returns
returns c = tidy_meshes
