use Rattle.std.specs.Prelude.{◌≤◌, length}
use Rattle.std.specs.List.{All}
use Rattle.box_tree.specs.Touching.{IsBox}
use Rattle.box_tree.proofs.tests.boxes_of_row.Given as goal

abbrev pub invariant-loop-place : goal.invariant-loop-place
invariant-loop-place l = record {
  few : length l.boxes.items ≤ l.place;
  boxes : All IsBox l.boxes.items;
}
