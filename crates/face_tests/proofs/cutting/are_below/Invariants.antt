use Rattle.std.proofs.Common.{◌<◌, ℕ, get_or}
use Rattle.face_tests.proofs.cutting.are_below.Given as goal

-- each vertex so far is below the count
abbrev pub invariant-loop-v : goal.invariant-loop-v
invariant-loop-v l = (k : ℕ) → k < l.v-index → get_or l.ring k 0 < l.count
