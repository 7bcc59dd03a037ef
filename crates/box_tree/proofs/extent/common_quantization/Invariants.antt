use Rattle.std.specs.Prelude.{take}
use Rattle.std.specs.List.{All}
use Rattle.box_tree.specs.Coarse.{HasEnds}
use Rattle.box_tree.specs.Extents.{IsCovered}
use Rattle.box_tree.proofs.extent.common_quantization.Given as goal

abbrev pub invariant-loop-number : goal.invariant-loop-number
invariant-loop-number g l = All (HasEnds (IsCovered l.extent)) (take l.number (g.B.Boxes.boxes l.boxes))
