use Rattle.source_face_laws.proofs.Few.{few_triples, forced_within}
use Rattle.source_face_laws.proofs.Together.{all_accepted}
use Rattle.source_face_laws.proofs.of_fillings.fillings_close.Goals as goal

pub returns-clause-accepted : goal.returns-clause-accepted
returns-clause-accepted c = all_accepted

pub returns-clause-few : goal.returns-clause-few
returns-clause-few c = λ p q cs can. (few_triples p q cs can, forced_within p q cs can)
