use Rattle.inspection_laws.proofs.Firsts.{AreSoFar}
use Rattle.self_cuts.proofs.firsts.firsts.Given as goal

-- the points so far
abbrev pub invariant-loop-number : goal.invariant-loop-number
invariant-loop-number l = AreSoFar l.points l.number l.places.keys l.heads.items l.of.items
