use Rattle.std.proofs.Common.{◌≡◌, ◌≤◌, length, take}
use Rattle.std.specs.List.{concat}
use Rattle.plane_filling.proofs.filling.are_few.Given as goal

-- the count so far
abbrev pub invariant-loop-each : goal.invariant-loop-each
invariant-loop-each l = record {
  count : l.count ≡ length (concat (take l.each-index l.loops));
  most : l.count ≤ 60000000;
}
