use Rattle.std.proofs.Common.{◌≡◌, ◌<◌, ℕ, [], length, get_or}
use Rattle.mesh_boolean.proofs.auditing.origins.lie_there.Given as goal

abbrev pub invariant-loop-vertex : goal.invariant-loop-vertex
invariant-loop-vertex l =
    (v : ℕ) → v < l.vertex → (get_or l.from v 0 < length l.old) × (get_or l.points v [] ≡ get_or l.old (get_or l.from v 0) [])
