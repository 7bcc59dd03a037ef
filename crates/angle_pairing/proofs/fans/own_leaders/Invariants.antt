use Rattle.std.proofs.Common.{◌≡◌}
use Rattle.chain_terms.specs.Chains.{all_edges}
use Rattle.mesh_terms.specs.Meshes.{triples_of}
use Rattle.sheet_terms.specs.Vertices.{fan_list}
use Rattle.angle_pairing.proofs.fans.own_leaders.Given as goal

abbrev pub invariant-loop-place : goal.invariant-loop-place
invariant-loop-place l = l.firsts.items ≡ fan_list l.place (all_edges (triples_of l.triples)) l.leaders
