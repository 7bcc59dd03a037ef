use Rattle.std.proofs.Common.{◌≡◌, length}
use Rattle.format_terms.specs.ObjFaces.{has_repeat}
use Rattle.obj_text.proofs.repeats.has_repeat_of_few.Given as goal

-- the vertices so far are not among the later ones
abbrev pub invariant-loop-vertex : goal.invariant-loop-vertex
invariant-loop-vertex l = has_repeat l.vertices ≡ has_repeat l.rest

abbrev pub decreases-loop-vertex : goal.decreases-loop-vertex
decreases-loop-vertex l = length l.rest
