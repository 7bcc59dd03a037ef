use Rattle.std.specs.Prelude.{◌≤◌, length}
use Rattle.std.specs.List.{All}
use Rattle.box_tree.specs.Touching.{IsBox}
use Rattle.box_tree.proofs.tests.run_with_points.Given as goal

abbrev pub invariant-loop-number : goal.invariant-loop-number
invariant-loop-number l = record {
  few : length l.boxes.items ≤ l.number;
  boxes : All IsBox l.boxes.items;
}
