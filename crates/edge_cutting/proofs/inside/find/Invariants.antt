use Rattle.std.proofs.Common.{◌+◌, ◌-◌, ◌*◌, ◌^◌, ◌<◌, ◌≤◌}
use Rattle.edge_cutting.specs.Passed.{HasPassed}
use Rattle.edge_cutting.proofs.inside.find.Given as goal

-- the places before `from` are found
abbrev pub invariant-loop-from : goal.invariant-loop-from
invariant-loop-from l = record {
  passed : HasPassed l.edge.points.now l.edge.a l.edge.b l.edge.steps l.from l.found.items;
  some : 0 < l.from;
  within : l.from ≤ l.last + 1;
  short : l.length ≤ 2 ^ 33;
}

-- each turn goes on, or halves the piece
abbrev pub decreases-loop-from : goal.decreases-loop-from
decreases-loop-from l = (l.last + 1 - l.from) * 2 ^ 34 + l.length
