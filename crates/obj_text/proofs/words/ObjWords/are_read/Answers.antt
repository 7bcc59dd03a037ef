use Rattle.obj_text.proofs.LabelSteps.{left_read}
use Rattle.obj_text.proofs.words.ObjWords.are_read.Goals as goal

pub returns : goal.returns
returns c = rw (← c.self.view_is) (left_read c.self.inside.part.now c.self.inside.later.now)
