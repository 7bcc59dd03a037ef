use Rattle.std.proofs.Common.{◌≡◌, ◌<◌, ◌+◌, ℕ, false}
use Rattle.halfedge.proofs.Single.{runs_with}
use Rattle.halfedge.proofs.pairing.are_single.Given as goal

-- each half-edge before i runs otherwise than the one before it
abbrev pub invariant-loop-i : goal.invariant-loop-i
invariant-loop-i l = (j : ℕ) → j + 1 < l.i → runs_with l.edges j (j + 1) ≡ false
