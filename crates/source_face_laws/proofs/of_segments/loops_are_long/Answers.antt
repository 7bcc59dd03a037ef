use Rattle.source_face_laws.proofs.LongLoops.{loops_are_long}
use Rattle.source_face_laws.proofs.Named.{are_named}
use Rattle.source_face_laws.proofs.of_segments.loops_are_long.Goals as goal

pub returns-clause-long : goal.returns-clause-long
returns-clause-long c = loops_are_long

pub returns-clause-named : goal.returns-clause-named
returns-clause-named c = are_named
