use Rattle.face_loops.specs.Segments.{edges_of}
use Rattle.face_loops.proofs.Rounds.{AreLoopsSoFar}
use Rattle.face_loops.proofs.all_loops.Given as goal

abbrev pub invariant-loop-first : goal.invariant-loop-first
invariant-loop-first l = AreLoopsSoFar (edges_of l.segments) l.first l.used l.loops.items
