use Rattle.std.proofs.Common.{◌≡◌, ◌++◌, replicate}
use Rattle.obj_text.proofs.groups.push_times.Given as goal

-- so many are added so far
abbrev pub invariant-loop : goal.invariant-loop
invariant-loop l = l.labels ≡ l.initial.labels ++ replicate l.counter l.label
