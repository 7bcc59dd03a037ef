use Rattle.std.specs.Prelude.{◌≡◌, take}
use Rattle.box_tree.proofs.tree.copy_of.Given as goal

abbrev pub invariant-loop-number : goal.invariant-loop-number
invariant-loop-number g l = l.copy.items ≡ take l.number (g.B.Boxes.boxes l.boxes)
