use Rattle.std.proofs.Common.{◌≡◌, ◌*◌, take}
use Rattle.chain_terms.specs.Chains.{all_edges}
use Rattle.mesh_terms.specs.Meshes.{triples_of}
use Rattle.halfedge.specs.Pairing.{numbered}
use Rattle.halfedge.proofs.open_edge.numbered_edges.Given as goal

abbrev pub invariant-loop-a : goal.invariant-loop-a
invariant-loop-a l = record { items : l.edges.items ≡ numbered 0 (all_edges (triples_of (take l.a-index l.triples))); half : l.half ≡ 3 * l.a-index }
