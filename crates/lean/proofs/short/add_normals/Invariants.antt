use Rattle.std.proofs.Common.{◌≡◌, take}
use Rattle.mesh_terms.specs.Meshes.{triples_of}
use Rattle.lean.specs.Leans.{normals_of}
use Rattle.lean.proofs.short.add_normals.Given as goal

abbrev pub invariant-loop-triple : goal.invariant-loop-triple
invariant-loop-triple l = record {
  value : l.normals ≡ normals_of l.mesh.points (triples_of (take l.triple-index l.triple-items));
  points : l.points ≡ l.mesh.points;
  triples : triples_of l.triple-items ≡ l.mesh.triples;
}
