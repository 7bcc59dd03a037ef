use Rattle.std.proofs.Common.{◌∙◌, ap, inl, refl, sym}
use Rattle.mb_outside.proofs.Adds.{added_none}
use Rattle.program_runs.specs.Statuses.{status_number}
use Rattle.program_runs.proofs.Ends.{not_done}
use Rattle.program_runs.proofs.ending.concluded.Goals as goal

pub returns-in-Ok-clause-told : goal.returns-in-Ok-clause-told
returns-in-Ok-clause-told g c = rw c.in-Ok.is (refl, inl (added_none _, refl))

pub returns-in-Err-clause-told : goal.returns-in-Err-clause-told
returns-in-Err-clause-told g c = rw c.in-Err.is (c.status_of.ensures, c.tell_halt.ensures)

pub returns-in-Err-clause-quiet : goal.returns-in-Err-clause-quiet
returns-in-Err-clause-quiet g c done = absurd (not_done _ (sym c.status_of.ensures ∙ ap status_number done))
