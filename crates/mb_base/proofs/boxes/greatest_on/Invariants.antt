use Rattle.std.proofs.Common.{◌≡◌, pos, take, map, get_or}
use Rattle.std.specs.Int.{int_max}
use Rattle.std.specs.List.{fold}
use Rattle.mb_base.specs.Boxes.{axis}
use Rattle.mb_base.proofs.boxes.greatest_on.Given as goal

abbrev pub invariant-loop-corner : goal.invariant-loop-corner
invariant-loop-corner l = l.greatest ≡ fold int_max (get_or (map (axis l.axis) l.corners) 0 (pos 0)) (take l.corner-index (map (axis l.axis) l.corners))
