use Rattle.std.proofs.Common.{◌%◌, ◌+◌, length}
use Rattle.chain_terms.specs.Chains.{all_edges}
use Rattle.mesh_terms.specs.Meshes.{triples_of}
use Rattle.halfedge.specs.Ways.{ArePaired}
use Rattle.halfedge.proofs.pairing.pair_buckets.Given as goal

-- the half-edges of the first k buckets are paired
abbrev pub invariant-loop-k : goal.invariant-loop-k
invariant-loop-k l = ArePaired (all_edges (triples_of l.triples)) (λ a. a % (length l.triples + 1)) l.k l.twins l.single
