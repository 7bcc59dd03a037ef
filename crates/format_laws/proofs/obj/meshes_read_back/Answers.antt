use Rattle.format_laws.proofs.ObjSavedMeshes as saved
use Rattle.format_laws.proofs.obj.meshes_read_back.Goals as goal

pub returns : goal.returns
returns c = saved.meshes_read_back
