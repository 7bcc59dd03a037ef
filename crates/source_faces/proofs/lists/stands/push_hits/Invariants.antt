use Rattle.std.proofs.Common.{◌≡◌, ◌+◌, ◌++◌, take}
use Rattle.side_terms.specs.Prescribed.{hit_count}
use Rattle.chain_terms.specs.Chains.{all_edges}
use Rattle.source_faces.specs.Stands.{hit_stands}
use Rattle.source_faces.proofs.lists.stands.push_hits.Given as goal

abbrev pub invariant-loop-hit : goal.invariant-loop-hit
invariant-loop-hit l = record {
  stands : l.stands.items ≡
      l.fn.stands.items ++ hit_stands l.op (all_edges l.twins.triples) l.bases.edges l.bases.faces l.first (take l.hit-index l.hits);
  next : l.next ≡ l.first + hit_count l.op (take l.hit-index l.hits);
}
