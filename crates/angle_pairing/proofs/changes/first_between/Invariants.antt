use Rattle.std.proofs.Common.{◌≡◌, drop}
use Rattle.angle_pairing.specs.Labels.{first_between}
use Rattle.angle_pairing.proofs.changes.first_between.Given as goal

abbrev pub invariant-loop-other : goal.invariant-loop-other
invariant-loop-other l = first_between l.labels l.alike l.half ≡ first_between l.labels (drop l.other-index l.alike) l.half
