use Rattle.chain_terms.specs.Chains.{all_edges}
use Rattle.halfedge.specs.Numbering.{AreInOrder}
use Rattle.halfedge.proofs.FanProgress.{AreFansSoFar}
use Rattle.halfedge.proofs.twins.Twins.fans.Given as goal

abbrev pub invariant-loop-half : goal.invariant-loop-half
invariant-loop-half l = record {
  known : AreInOrder (all_edges l.self.triples) l.half-items;
  fans : AreFansSoFar (all_edges l.self.triples) l.half-items l.half-index l.of.items l.first.items;
}
