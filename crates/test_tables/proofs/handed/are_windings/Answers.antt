use Rattle.std.proofs.Common.{rules}
use Rattle.test_tables.proofs.handed.are_windings.Goals as goal

pub returns-then-windings-corners-clause-small : goal.returns-then-windings-corners-clause-small
returns-then-windings-corners-clause-small c = search rules
