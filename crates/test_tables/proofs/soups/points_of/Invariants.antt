use Rattle.std.proofs.Common.{◌≡◌, take}
use Rattle.test_tables.proofs.soups.points_of.Given as goal

abbrev pub invariant-loop-row : goal.invariant-loop-row
invariant-loop-row l = l.points.items ≡ take l.row-index l.rows
