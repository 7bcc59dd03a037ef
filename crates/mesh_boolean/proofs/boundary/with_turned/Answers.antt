use Rattle.std.proofs.Common.{subst}
use Rattle.std.specs.List.Sorted.{IsPermutation}
use Rattle.mesh_boolean.proofs.boundary.with_turned.Goals as goal

pub returns-clause-moved : goal.returns-clause-moved
returns-clause-moved c = subst (λ l. IsPermutation l c.sort_unstable.new.self.items) c.in_ok-all.ensures c.sort_unstable.ensures.permutation
