use Rattle.std.proofs.Common.{◌≡◌, ◌<◌, ℕ, get_or}
use Rattle.halfedge.specs.Pairing.{ends}
use Rattle.halfedge.proofs.pairing.run_alike.Given as goal

abbrev pub invariant-loop-i : goal.invariant-loop-i
invariant-loop-i l = (j : ℕ) → j < l.i → ends (get_or l.ups j (0, 0, 0)) ≡ ends (get_or l.downs j (0, 0, 0))
