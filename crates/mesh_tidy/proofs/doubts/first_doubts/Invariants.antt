use Rattle.mesh_tidy.specs.Doubts.{AreHalves}
use Rattle.mesh_tidy.proofs.Doubted.{AreListedTo}
use Rattle.mesh_tidy.proofs.doubts.first_doubts.Given as goal

-- those of the half-edges so far
abbrev pub invariant-loop-half : goal.invariant-loop-half
invariant-loop-half l = record {
  halves : AreHalves l.mesh.triples l.doubts.keys;
  listed : AreListedTo l.mesh.points l.mesh.triples l.half l.doubts.keys;
}
