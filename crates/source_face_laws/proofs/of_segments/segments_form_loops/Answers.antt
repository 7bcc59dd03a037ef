use Rattle.source_face_laws.proofs.LongLoops.{loops_have_copies}
use Rattle.source_face_laws.proofs.Standing.{join_copies}
use Rattle.source_face_laws.proofs.OneToOne.{one_to_one}
use Rattle.source_face_laws.proofs.of_segments.segments_form_loops.Goals as goal

pub returns-clause-join : goal.returns-clause-join
returns-clause-join c = join_copies

pub returns-clause-once : goal.returns-clause-once
returns-clause-once c = one_to_one

pub returns-clause-vertices : goal.returns-clause-vertices
returns-clause-vertices c = loops_have_copies
