use Rattle.format_laws.proofs.StlReadMeshes as read
use Rattle.format_laws.proofs.stl.files_give_meshes.Goals as goal

pub returns : goal.returns
returns c = read.files_give_meshes
