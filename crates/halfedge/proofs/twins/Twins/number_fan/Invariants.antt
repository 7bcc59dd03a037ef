use Rattle.std.proofs.Common.{length, ◌==◌}
use Rattle.std.specs.Prelude.{count_by}
use Rattle.chain_terms.specs.Chains.{all_edges}
use Rattle.mesh_terms.specs.Halves.{around}
use Rattle.halfedge.specs.Numbering.{no_fan}
use Rattle.halfedge.proofs.FanWalk.{IsWalked}
use Rattle.halfedge.proofs.twins.Twins.number_fan.Given as goal

abbrev pub invariant-loop-of : goal.invariant-loop-of
invariant-loop-of l = IsWalked (around (all_edges l.self.triples)) (length (all_edges l.self.triples)) l.h l.number l.initial.of l.of l.half

abbrev pub decreases-loop-of : goal.decreases-loop-of
decreases-loop-of l = count_by (λ x. x == no_fan) l.of
