use Rattle.source_face_laws.proofs.Counted.{all_counted}
use Rattle.source_face_laws.proofs.Loops.{form_loops}
use Rattle.source_face_laws.proofs.of_fillings.faces_form_loops.Goals as goal

pub returns-clause-counted : goal.returns-clause-counted
returns-clause-counted c = all_counted

pub returns-clause-loops : goal.returns-clause-loops
returns-clause-loops c = form_loops
