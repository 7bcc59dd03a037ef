use Rattle.std.proofs.Common.{rules}
use Rattle.grid_number.proofs.number.exponent.Goals as goal

pub returns-in_default : goal.returns-in_default
returns-in_default c = search rules
