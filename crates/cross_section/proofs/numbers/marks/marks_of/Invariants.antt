use Rattle.std.proofs.Common.{◌≡◌, [], get_or, map}
use Rattle.chain_terms.specs.Sums.{upto}
use Rattle.outline_terms.specs.Outlines.{after, before, marks_between}
use Rattle.cross_section.proofs.numbers.marks.marks_of.Given as goal

abbrev pub invariant-loop-v : goal.invariant-loop-v
invariant-loop-v l = l.ups.items ≡ map (λ v. marks_between l.op (get_or l.points (before l.edges v) []) (get_or l.points (after l.edges v) [])) (upto l.v)
