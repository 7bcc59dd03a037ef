use Rattle.std.proofs.Common.{◌≡◌, ◌++◌, take}
use Rattle.mesh_make.proofs.rows.push_points.Given as goal

abbrev pub invariant-loop-row : goal.invariant-loop-row
invariant-loop-row l = l.points.items ≡ l.fn.points.items ++ take l.row-index l.rows
