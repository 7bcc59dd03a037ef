use Rattle.std.proofs.Common.{◌≡◌, take}
use Rattle.face_loops.specs.Segments.{edges_of}
use Rattle.face_loops.specs.Starts.{starts_of}
use Rattle.face_loops.proofs.starts.starts.Given as goal

abbrev pub invariant-loop-place : goal.invariant-loop-place
invariant-loop-place l = l.starts.items ≡ starts_of (edges_of (take l.place l.segments))
