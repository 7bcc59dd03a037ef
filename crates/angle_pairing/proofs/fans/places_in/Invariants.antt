use Rattle.angle_pairing.proofs.Numbering.{AreSoFar}
use Rattle.angle_pairing.proofs.fans.places_in.Given as goal

abbrev pub invariant-loop-number : goal.invariant-loop-number
invariant-loop-number l = AreSoFar l.count l.number l.numbers.items l.firsts
