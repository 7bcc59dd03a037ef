use Rattle.std.proofs.Common.{◌≡◌, ◌<◌, drop, map}
use Rattle.std.specs.List.{All}
use Rattle.chain_terms.specs.Sums.{upto}
use Rattle.outline_terms.specs.Outlines.{before}
use Rattle.cross_section.proofs.numbers.marks.all_before.Given as goal

abbrev pub invariant-loop-k : goal.invariant-loop-k
invariant-loop-k l = record { value : l.vertices.items ≡ map (before (drop l.k l.edges)) (upto l.count); below : All (λ v. v < l.count) l.vertices.items }
