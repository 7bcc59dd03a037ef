use Rattle.std.proofs.Common.{map, take}
use Rattle.chain_terms.specs.Chains.{all_edges}
use Rattle.mesh_terms.specs.Meshes.{triples_of}
use Rattle.edge_cutting.specs.Edges.{AreLong, pair_of}
use Rattle.edge_cutting.proofs.edges.long_edges.Given as goal

-- those of the triangles so far
abbrev pub invariant-loop-triple : goal.invariant-loop-triple
invariant-loop-triple l = AreLong l.points (all_edges (triples_of (take l.triple-index l.triples))) (map pair_of l.edges.items)
