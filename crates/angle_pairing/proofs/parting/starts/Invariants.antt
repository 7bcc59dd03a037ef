use Rattle.std.proofs.Common.{◌≡◌, map, take}
use Rattle.chain_terms.specs.Chains.{all_edges}
use Rattle.chain_terms.specs.Ranks.{start}
use Rattle.mesh_terms.specs.Meshes.{triples_of}
use Rattle.angle_pairing.proofs.parting.starts.Given as goal

-- the vertices so far
abbrev pub invariant-loop-half : goal.invariant-loop-half
invariant-loop-half l = l.from.items ≡ map (start (all_edges (triples_of l.triples))) (take l.half-index l.halves)
