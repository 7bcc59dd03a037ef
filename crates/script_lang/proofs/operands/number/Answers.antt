use Rattle.std.proofs.Common.{arith, rules}
use Rattle.std.proofs.lemmas.Grind.{common_steps}
use Rattle.play_terms.specs.Operands.{number_of, number_fault}
use Rattle.script_lang.proofs.operands.number.Goals as goal

pub returns-in-Ok-clause-value : goal.returns-in-Ok-clause-value
unfolding number_of
returns-in-Ok-clause-value c = search rules

pub returns-in-Ok-clause-sound : goal.returns-in-Ok-clause-sound
unfolding number_fault
returns-in-Ok-clause-sound c = search rules

pub returns-in-Err-clause-fault : goal.returns-in-Err-clause-fault
unfolding number_fault
returns-in-Err-clause-fault c = grind (arith, common_steps)
