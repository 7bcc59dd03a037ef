use Rattle.angle_pairing.proofs.Firsts.{AreFirsts}
use Rattle.angle_pairing.proofs.alike.first_alike.Given as goal

-- the pairs that start below this start
abbrev pub invariant-loop-start : goal.invariant-loop-start
invariant-loop-start l = AreFirsts l.pairs l.count l.start l.leads.items l.firsts.items
