use Rattle.std.proofs.Common.{◌≡◌, ◌<◌, ℕ, false}
use Rattle.face_plane.specs.Planes.{Plane}
use Rattle.ring_cutting.specs.Cuts.{is_ear}
use Rattle.ring_cutting.specs.Placed.{vertices_of, IsPlaced}
use Rattle.ring_cutting.proofs.ears.first_ear.Given as goal

-- none of the places so far is an ear
abbrev pub invariant-loop-i : goal.invariant-loop-i
invariant-loop-i l = (at : Plane) → IsPlaced at l.places → (k : ℕ) → k < l.i → is_ear at (vertices_of l.places) k ≡ false
