use Rattle.std.proofs.Common.{take}
use Rattle.chain_terms.specs.Chains.{all_edges}
use Rattle.winding.specs.Along.{AreCrossed}
use Rattle.winding.proofs.along.crossed_triangles.Given as goal

abbrev pub invariant-loop-hit : goal.invariant-loop-hit
invariant-loop-hit l = AreCrossed (all_edges l.edges.triples) (take l.hit-index l.hits) l.crossed.items
