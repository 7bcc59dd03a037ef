use Rattle.std.proofs.Common.{◌++◌}
use Rattle.std.specs.List.Sorted.{IsPermutation}
use Rattle.box_tree.specs.Touching.{touching_numbers}
use Rattle.plane_sheets.proofs.passing.find_all.Given as goal

abbrev pub invariant-loop-number : goal.invariant-loop-number
invariant-loop-number l = IsPermutation (touching_numbers l.fn.tree l.fn.area) (l.near.items ++ l.number-iterator)
