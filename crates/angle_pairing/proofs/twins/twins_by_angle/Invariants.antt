use Rattle.chain_terms.specs.Chains.{all_edges}
use Rattle.mesh_terms.specs.Meshes.{triples_of}
use Rattle.angle_pairing.proofs.Pairing.{AreTwinned}
use Rattle.angle_pairing.proofs.twins.twins_by_angle.Given as goal

-- the edges before one half-edge are paired
abbrev pub invariant-loop-half : goal.invariant-loop-half
invariant-loop-half l = AreTwinned l.points (all_edges (triples_of l.triples)) l.edges.gathered.firsts.items l.half l.twins.items
