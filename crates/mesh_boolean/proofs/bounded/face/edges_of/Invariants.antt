use Rattle.std.proofs.Common.{◌≡◌, map, take}
use Rattle.chain_terms.specs.Chains.{all_edges}
use Rattle.edge_pairing.specs.Entries.{edge_of}
use Rattle.mesh_terms.specs.Meshes.{triples_of}
use Rattle.mesh_boolean.proofs.bounded.face.edges_of.Given as goal

abbrev pub invariant-loop-a : goal.invariant-loop-a
invariant-loop-a l = map edge_of l.edges.items ≡ all_edges (triples_of (take l.a-index l.part))
