use Rattle.source_faces.proofs.ListFaces.{segments_can, segments_given}
use Rattle.source_faces.proofs.lists.laws.lists_give_segments.Goals as goal

pub returns-clause-segments : goal.returns-clause-segments
returns-clause-segments c = λ p q cs k p_runs q_runs stands lists. segments_given p q cs k p_runs q_runs stands lists lists.listed

pub returns-clause-paired : goal.returns-clause-paired
returns-clause-paired c = λ p q cs k p_runs q_runs stands lists balance. segments_can p q cs k p_runs q_runs stands lists lists.listed balance
