use Rattle.std.proofs.Common.{◌≡◌, map, take}
use Rattle.mb_base.specs.Boxes.{box_of}
use Rattle.side_terms.specs.Sides.{face_at}
use Rattle.crossings.proofs.near.find_boxes.Given as goal

abbrev pub invariant-loop-face : goal.invariant-loop-face
invariant-loop-face l = l.boxes.items ≡ map (λ f. box_of (face_at l.faces f)) (take l.face-index l.near)
