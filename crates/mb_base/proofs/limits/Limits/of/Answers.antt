use Rattle.std.proofs.Common.{rules}
use Rattle.mb_base.proofs.limits.Limits.of.Goals as goal

pub returns-else-few-clause-lawful : goal.returns-else-few-clause-lawful
returns-else-few-clause-lawful c = search rules
