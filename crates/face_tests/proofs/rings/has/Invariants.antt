use Rattle.std.proofs.Common.{◌≡◌}
use Rattle.loop_ring.specs.Turning.{turned_to}
use Rattle.face_tests.proofs.rings.has.Given as goal

abbrev pub invariant-loop-place : goal.invariant-loop-place
invariant-loop-place l = l.ring ≡ turned_to l.place l.initial.ring
