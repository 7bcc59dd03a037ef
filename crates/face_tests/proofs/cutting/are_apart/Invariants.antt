use Rattle.std.proofs.Common.{◌≢◌, ◌+◌, ◌<◌, ℕ, get_or}
use Rattle.face_tests.proofs.cutting.are_apart.Given as goal

-- each place so far differs from the next
abbrev pub invariant-loop-i : goal.invariant-loop-i
invariant-loop-i l = (k : ℕ) → k + 1 < l.i → get_or l.ring k 0 ≢ get_or l.ring (k + 1) 0
