use Rattle.std.proofs.Common.{◌≡◌, ◌++◌, map, take}
use Rattle.outline_terms.specs.Extrusion.{at_height}
use Rattle.cross_section.proofs.extrusion.heights.push_at.Given as goal

abbrev pub invariant-loop-point : goal.invariant-loop-point
invariant-loop-point l = l.points.items ≡ l.fn.points.items ++ map (at_height l.height) (take l.point-index l.others)
