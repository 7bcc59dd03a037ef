use Rattle.std.proofs.Common.{◌≡◌, take, map}
use Rattle.chain_terms.specs.Chains.{all_edges}
use Rattle.mesh_terms.specs.Meshes.{triples_of}
use Rattle.halfedge.specs.Ways.{bucket_of}
use Rattle.halfedge.proofs.ways.bucket_numbers.Given as goal

abbrev pub invariant-loop-a : goal.invariant-loop-a
invariant-loop-a l = l.numbers.items ≡ map (bucket_of l.count) (all_edges (triples_of (take l.a-index l.triples)))
