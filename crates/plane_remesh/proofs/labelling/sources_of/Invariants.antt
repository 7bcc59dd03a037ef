use Rattle.std.proofs.Common.{◌≡◌, get_or, map, take}
use Rattle.plane_remesh.proofs.labelling.sources_of.Given as goal

-- the numbers so far
abbrev pub invariant-loop-face : goal.invariant-loop-face
invariant-loop-face l = l.of.items ≡ map (λ t. get_or l.sources t 0) (take l.face-index l.faces)
