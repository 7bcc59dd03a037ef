use Rattle.plane_chains.proofs.RimSets.{HasSets, mapped}
use Rattle.plane_chains.proofs.opposites.sets_of.Given as goal

abbrev pub invariant-loop-i : goal.invariant-loop-i
invariant-loop-i l = HasSets l.rims.0 l.some l.i (mapped l.seen.keys (λ v. v.items)) l.sets.items
