use Rattle.std.proofs.Common.{◌≡◌, ◌<◌, ◌++◌}
use Rattle.plane_sheets.specs.Dealt.{run}
use Rattle.plane_sheets.proofs.borders.push_run.Given as goal

abbrev pub invariant-loop-level : goal.invariant-loop-level
invariant-loop-level l = record {
  value : l.found.items ≡ l.fn.found.items ++ run l.label l.low l.level l.ends;
  still : l.high < l.low → l.level ≡ l.low;
}
