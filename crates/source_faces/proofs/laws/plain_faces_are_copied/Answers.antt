use Rattle.source_faces.proofs.PlainFaces.{copied}
use Rattle.source_faces.proofs.laws.plain_faces_are_copied.Goals as goal

pub returns : goal.returns
returns c = copied
