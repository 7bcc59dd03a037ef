use Rattle.std.proofs.Common.{◌≡◌, map, take}
use Rattle.std.specs.List.{All}
use Rattle.box_tree.specs.Touching.{IsBox}
use Rattle.plane_chains.specs.EdgeBoxes.{pair_of}
use Rattle.plane_sheets.specs.Boxed.{shadows_of}
use Rattle.plane_sheets.specs.Seen.{seen_in}
use Rattle.plane_sheets.proofs.passing.shadows.Given as goal

abbrev pub invariant-loop-from : goal.invariant-loop-from
invariant-loop-from l = record {
  value : l.boxes.items ≡ shadows_of (seen_in l.flat) (map pair_of (take l.from-index l.edges));
  boxes : All IsBox l.boxes.items;
}
