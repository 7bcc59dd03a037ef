use Rattle.angle_pairing.proofs.Labelling.{AreLed}
use Rattle.angle_pairing.proofs.labels.leaders.Given as goal

abbrev pub invariant-loop-half : goal.invariant-loop-half
invariant-loop-half l = AreLed l.twins l.labels.items l.half
