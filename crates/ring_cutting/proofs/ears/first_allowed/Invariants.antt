use Rattle.std.proofs.Common.{◌≡◌, ◌<◌, ℕ, false}
use Rattle.ring_cutting.specs.Cuts.{is_allowed}
use Rattle.ring_cutting.specs.Placed.{vertices_of}
use Rattle.ring_cutting.proofs.ears.first_allowed.Given as goal

-- none of the places so far is allowed
abbrev pub invariant-loop-i : goal.invariant-loop-i
invariant-loop-i l = (k : ℕ) → k < l.i → is_allowed (vertices_of l.places) k ≡ false
