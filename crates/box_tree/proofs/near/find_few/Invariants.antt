use Rattle.std.proofs.Common.{◌++◌, ◌≤◌, length}
use Rattle.std.specs.List.Sorted.{IsPermutation}
use Rattle.box_tree.specs.Touching.{touching_numbers}
use Rattle.box_tree.proofs.near.find_few.Given as goal

-- the numbers so far and those to come are all, and those so far are not too many
abbrev pub invariant-loop-number : goal.invariant-loop-number
invariant-loop-number l = record {
  moved : IsPermutation (touching_numbers l.fn.tree l.fn.area) (l.near.items ++ l.number-iterator);
  few : length l.near.items ≤ l.most;
}
