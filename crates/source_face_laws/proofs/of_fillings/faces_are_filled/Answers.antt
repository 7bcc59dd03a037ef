use Rattle.source_face_laws.proofs.Fillings.{fill_face}
use Rattle.source_face_laws.proofs.of_fillings.faces_are_filled.Goals as goal

pub returns : goal.returns
returns c = record { filled = fill_face }
