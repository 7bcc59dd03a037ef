use Rattle.std.proofs.Common.{◌≡◌, ◌++◌, map, take}
use Rattle.chain_laws.specs.Triples.{opposite_triple}
use Rattle.mesh_terms.specs.Meshes.{triples_of}
use Rattle.cross_section.proofs.extrusion.walls.push_bottom.Given as goal

abbrev pub invariant-loop-a : goal.invariant-loop-a
invariant-loop-a l = triples_of l.triples.items ≡ triples_of l.fn.triples.items ++ map opposite_triple (triples_of (take l.a-index l.fill))
