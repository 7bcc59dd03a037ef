use Rattle.std.proofs.Common.{◌≡◌, ◌≤◌, List, length, take}
use Rattle.mesh_terms.specs.Meshes.{Triple, used_from}
use Rattle.unused_points.specs.Used.{MarksUsed, NumbersUsed}
use Rattle.unused_points.proofs.kept_points.Given as goal

-- the points so far
abbrev pub invariant-loop-place : goal.invariant-loop-place
invariant-loop-place l = record {
  few : length l.kept.items ≤ l.place;
  kept : (ts : List Triple) → MarksUsed (length l.points) ts l.marks → l.kept.items ≡ used_from ts 0 (take l.place l.points);
  numbers : (ts : List Triple) → MarksUsed (length l.points) ts l.marks → NumbersUsed l.place ts l.numbers.items;
}
