use Rattle.std.proofs.Common.{ℕ, ◌+◌, ◌<◌, get_or}
use Rattle.obj_text.proofs.repeats.has_repeat_of_ascending.Given as goal

-- each vertex so far is below the next
abbrev pub invariant-loop-place : goal.invariant-loop-place
invariant-loop-place l = (k : ℕ) → k + 1 < l.place → get_or l.vertices k 0 < get_or l.vertices (k + 1) 0
