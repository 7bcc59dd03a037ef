use Rattle.format_laws.proofs.ObjReadMeshes.{files_give_meshes}
use Rattle.format_laws.proofs.ObjSavedMeshes as saved
use Rattle.format_laws.proofs.obj.read_meshes_read_back.Goals as goal

pub returns-clause-meshes : goal.returns-clause-meshes
returns-clause-meshes c = files_give_meshes

pub returns-clause-again : goal.returns-clause-again
returns-clause-again c k few limits lawful bytes soup read =
    let given = files_give_meshes k limits lawful bytes soup read in
    saved.meshes_read_back k few limits lawful soup.points soup.triples soup.labels given.0 given.1
