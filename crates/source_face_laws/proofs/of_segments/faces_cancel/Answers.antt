use Rattle.source_face_laws.proofs.Assembled.{parts_closed}
use Rattle.source_face_laws.proofs.Cancelling.{cancel, closed}
use Rattle.source_face_laws.proofs.of_segments.faces_cancel.Goals as goal

pub returns-clause-segments : goal.returns-clause-segments
returns-clause-segments c = λ p q cs place p_known q_known. (cancel p q cs place p_known q_known, closed p q cs place p_known q_known)

pub returns-clause-triples : goal.returns-clause-triples
returns-clause-triples c = parts_closed
