use Rattle.format_laws.proofs.StlSavedMeshes as saved
use Rattle.format_laws.proofs.stl.meshes_read_welded.Goals as goal

pub returns : goal.returns
returns c = saved.meshes_read_welded
