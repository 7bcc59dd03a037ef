use Rattle.std.proofs.Common.{arith}
use Rattle.test_tables.proofs.digits.value_of.Goals as goal

pub returns-in-48-to-57 : goal.returns-in-48-to-57
returns-in-48-to-57 c = omega arith

pub returns-in-97-to-122 : goal.returns-in-97-to-122
returns-in-97-to-122 c = omega arith

pub returns-in-65-to-90 : goal.returns-in-65-to-90
returns-in-65-to-90 c = omega arith
