use Rattle.std.proofs.Common.{◌≡◌, ◌<◌, drop, map}
use Rattle.std.specs.List.{All}
use Rattle.chain_terms.specs.Sums.{upto}
use Rattle.outline_terms.specs.Outlines.{after}
use Rattle.cross_section.proofs.numbers.marks.all_after.Given as goal

abbrev pub invariant-loop-k : goal.invariant-loop-k
invariant-loop-k l = record { value : l.vertices.items ≡ map (after (drop l.k l.edges)) (upto l.count); below : All (λ v. v < l.count) l.vertices.items }
