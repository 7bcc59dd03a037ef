use Rattle.std.proofs.Common.{length, take}
use Rattle.chain_terms.specs.Chains.{all_edges}
use Rattle.side_terms.specs.Hits.{AreHits}
use Rattle.test_tables.proofs.handed.are_hits.Given as goal

abbrev pub invariant-loop-i : goal.invariant-loop-i
invariant-loop-i l = AreHits (all_edges l.edges.triples) (length l.faces.triples) (take l.i l.hits)
