use Rattle.std.proofs.Common.{◌≡◌}
use Rattle.mesh_terms.specs.Meshes.{triples_of}
use Rattle.made_terms.specs.Lattice.{boxes_triples}
use Rattle.mesh_make.proofs.lattice.boxes_triples.Given as goal

abbrev pub invariant-loop-b : goal.invariant-loop-b
invariant-loop-b l = triples_of l.triples.items ≡ boxes_triples l.b
