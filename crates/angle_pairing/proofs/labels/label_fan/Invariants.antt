use Rattle.angle_pairing.proofs.Labelling.{IsWalking}
use Rattle.angle_pairing.proofs.labels.label_fan.Given as goal

abbrev pub invariant-loop-turn : goal.invariant-loop-turn
invariant-loop-turn l = IsWalking l.twins l.half l.initial.labels l.labels l.turn l.at
