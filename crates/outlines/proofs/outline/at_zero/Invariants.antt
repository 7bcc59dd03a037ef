use Rattle.std.proofs.Common.{◌≡◌, take, map}
use Rattle.outline_terms.specs.Outlines.{flat_at_zero}
use Rattle.outlines.proofs.outline.at_zero.Given as goal

abbrev pub invariant-loop-x : goal.invariant-loop-x
invariant-loop-x l = l.points.items ≡ map flat_at_zero (take l.x-index l.places)
