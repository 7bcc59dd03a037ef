use Rattle.std.proofs.Common.{length}
use Rattle.face_loops.specs.Segments.{edges_of}
use Rattle.face_loops.specs.Trails.{left}
use Rattle.face_loops.proofs.Trailing.{IsOnTrail}
use Rattle.face_loops.proofs.trail.loop_from.Given as goal

abbrev pub invariant-loop-next : goal.invariant-loop-next
invariant-loop-next l = IsOnTrail (edges_of l.segments) l.first l.fn.used l.used l.end l.vertices.items

abbrev pub decreases-loop-next : goal.decreases-loop-next
decreases-loop-next l = length (left (edges_of l.segments) l.used)
