use Rattle.std.proofs.Common.{◌≡◌, ◌++◌, replicate, take}
use Rattle.mesh_terms.specs.Meshes.{triples_of}
use Rattle.plane_filling.proofs.filling.Filled.push_all.Given as goal

-- the triangles so far are added
abbrev pub invariant-loop-triple : goal.invariant-loop-triple
invariant-loop-triple l = record {
  triples : triples_of l.self.triples.items ≡ triples_of l.fn.self.triples.items ++ triples_of (take l.triple-index l.triples);
  labels : l.self.labels.items ≡ l.fn.self.labels.items ++ replicate l.triple-index l.label;
}
