use Rattle.cross_section.specs.Walks.{IsStartBefore}
use Rattle.cross_section.proofs.numbers.walk.nearest.Given as goal

abbrev pub invariant-loop-each : goal.invariant-loop-each
invariant-loop-each l = record { found : IsStartBefore l.list l.place l.best }
