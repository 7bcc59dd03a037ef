use Rattle.source_face_laws.proofs.Assembled.{starts_somewhere, vertices_stay}
use Rattle.source_face_laws.proofs.of_segments.copies_occur.Goals as goal

pub returns-clause-start : goal.returns-clause-start
returns-clause-start c = λ p q cs place stand balance v inside. let s = starts_somewhere p q cs place stand balance v inside in (s.face, s.known, s.once)

pub returns-clause-stay : goal.returns-clause-stay
returns-clause-stay c = vertices_stay
