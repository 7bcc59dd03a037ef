use Rattle.std.proofs.Common.{◌≢◌, ◌<◌, ◌*◌, ℕ}
use Rattle.chain_terms.specs.Chains.{all_edges}
use Rattle.chain_terms.specs.Ranks.{twin}
use Rattle.mesh_check.specs.Opposites.{third_vertex}
use Rattle.mesh_check.proofs.opposites.has_no_opposites.Given as goal

-- across the first edge of each triangle so far lies another third vertex
abbrev pub invariant-loop-triangle : goal.invariant-loop-triangle
invariant-loop-triangle l = (i : ℕ) → i < l.triangle → third_vertex l.twins.triples (twin (all_edges l.twins.triples) (3 * i)) ≢ third_vertex l.twins.triples (3 * i)
