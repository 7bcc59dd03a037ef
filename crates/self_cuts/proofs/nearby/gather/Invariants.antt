use Rattle.std.proofs.Common.{◌≤◌}
use Rattle.box_tree.specs.Touching.{touching_numbers}
use Rattle.inspection_laws.specs.Boxes.{boxes_of}
use Rattle.self_cuts.proofs.Hands.{AreKept}
use Rattle.self_cuts.proofs.nearby.gather.Given as goal

abbrev pub invariant-loop-number : goal.invariant-loop-number
invariant-loop-number l = record {
  kept : AreKept l.fn.mesh l.fn.end (touching_numbers (boxes_of l.fn.mesh) l.fn.area) l.seen.items l.number-iterator;
  few : l.met ≤ 128;
}
