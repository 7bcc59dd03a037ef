use Rattle.std.proofs.Common.{take}
use Rattle.mesh_terms.specs.Meshes.{triples_of}
use Rattle.unused_points.specs.Used.{MarksUsed}
use Rattle.unused_points.proofs.marks_of.Given as goal

-- the marks of the triangles so far
abbrev pub invariant-loop-a : goal.invariant-loop-a
invariant-loop-a l = MarksUsed l.count (triples_of (take l.a-index l.triples)) l.marks.items
