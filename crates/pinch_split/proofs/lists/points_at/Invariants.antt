use Rattle.std.proofs.Common.{◌≡◌, take}
use Rattle.pinch_split.specs.Given.{points_of}
use Rattle.pinch_split.proofs.lists.points_at.Given as goal

-- the points so far
abbrev pub invariant-loop-vertex : goal.invariant-loop-vertex
invariant-loop-vertex l = l.chosen.items ≡ points_of l.points (take l.vertex-index l.vertices)
