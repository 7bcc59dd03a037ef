use Rattle.std.proofs.Common.{subst}
use Rattle.std.specs.List.Sorted.{IsPermutation}
use Rattle.halfedge.proofs.ways.ways.Goals as goal

pub returns-clause-downs : goal.returns-clause-downs
returns-clause-downs c =
    record {
      moved = subst (λ l. IsPermutation l c.sort_unstable-2.new.self.items) c.in_ok-ups.ensures.downs c.sort_unstable-2.ensures.permutation;
      up = c.sort_unstable-2.ensures.sorted;
    }
