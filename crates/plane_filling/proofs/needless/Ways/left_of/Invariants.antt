use Rattle.std.proofs.Common.{◌≡◌, take}
use Rattle.plane_filling.specs.Begun.{without}
use Rattle.plane_filling.specs.Ways.{is_passed}
use Rattle.plane_filling.proofs.needless.Ways.left_of.Given as goal

-- what stays of the places so far
abbrev pub invariant-loop-place : goal.invariant-loop-place
invariant-loop-place l = l.left.items ≡ without (is_passed l.points l.self) (take l.place-index l.walk)
