use Rattle.obj_text.proofs.PlainReads.{face_first}
use Rattle.obj_text.proofs.lines.Lines.face.Goals as goal

pub returns : goal.returns
returns c = rw (← c.self.view_is) (face_first c.self.inside.number c.in_ok-a.a c.in_ok-a.b c.in_ok-a.c c.self.inside.text.now c.in_ok-a.text.now c.in_ok-a.ensures)
