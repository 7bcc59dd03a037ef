use Rattle.std.proofs.Common.{ℕ, ◌<◌, ◌≡◌, true, false}
use Rattle.std.specs.Prelude.{set}
use Rattle.ring_cutting.specs.Left.{lives, place_of, third_place}
use Rattle.ring_cutting.proofs.asked.any_third.Given as goal

-- none of the places so far is one
abbrev pub invariant-loop-j : goal.invariant-loop-j
invariant-loop-j l = (k : ℕ) → k < l.j → lives (set l.living l.i false) k ≡ true → third_place l.p l.n (place_of l.places k) ≡ false
