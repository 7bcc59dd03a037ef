use Rattle.std.proofs.Common.{subst, ap, ◌∙◌}
use Rattle.std.specs.List.Sorted.{IsPermutation}
use Rattle.chain_terms.specs.Chains.{all_edges}
use Rattle.halfedge.specs.Numbering.{by_starts}
use Rattle.halfedge.proofs.twins.Twins.by_start.Goals as goal

pub returns : goal.returns
returns c =
    record {
      moved = subst (λ l. IsPermutation l c.sort_unstable.new.self.items)
          (c.in_ok-order.ensures ∙ ap (λ ts. by_starts (all_edges ts)) c.triples.ensures.value) c.sort_unstable.ensures.permutation;
      up = c.sort_unstable.ensures.sorted;
    }
