use Rattle.std.proofs.Common.{◌≡◌, map, take}
use Rattle.chain_terms.specs.Sums.{upto}
use Rattle.mesh_terms.specs.Meshes.{triples_of}
use Rattle.source_faces.specs.Adding.{copy_triple}
use Rattle.mesh_boolean.proofs.bounded.plain.are_numbered.Given as goal

abbrev pub invariant-loop-i : goal.invariant-loop-i
invariant-loop-i l = triples_of (take l.i l.part) ≡ map (copy_triple l.a l.b l.c) (upto l.i)
