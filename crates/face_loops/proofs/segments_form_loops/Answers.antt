use Rattle.face_loops.proofs.LongLoops.{loops_are_long}
use Rattle.face_loops.proofs.OneToOne.{one_to_one}
use Rattle.face_loops.proofs.segments_form_loops.Goals as goal

pub returns-clause-once : goal.returns-clause-once
returns-clause-once c = λ stand key n xs even once. one_to_one stand key n xs even once

pub returns-clause-long : goal.returns-clause-long
returns-clause-long c = λ stand key n xs even once none. loops_are_long stand key n xs even once none
