use Rattle.source_faces.proofs.TellCopies.{prescribed_have_lists}
use Rattle.source_faces.proofs.lists.laws.copies_have_lists.Goals as goal

pub returns : goal.returns
returns c = prescribed_have_lists
