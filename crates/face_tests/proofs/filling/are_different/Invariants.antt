use Rattle.std.proofs.Common.{◌≢◌, ℕ, ◌<◌, get_or}
use Rattle.face_tests.proofs.filling.are_different.Given as goal

abbrev pub invariant-loop-place : goal.invariant-loop-place
invariant-loop-place l = (i j : ℕ) → i < j → j < l.place → get_or l.vertices i 0 ≢ get_or l.vertices j 0
