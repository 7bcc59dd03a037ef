use Rattle.std.proofs.Common.{◌≡◌, map, take}
use Rattle.chain_terms.specs.Chains.{all_edges}
use Rattle.mesh_terms.specs.Meshes.{triples_of}
use Rattle.angle_pairing.proofs.fans.starts.Given as goal

abbrev pub invariant-loop-a : goal.invariant-loop-a
invariant-loop-a l = l.starts.items ≡ map (λ e. e.0) (all_edges (triples_of (take l.a-index l.triples)))
