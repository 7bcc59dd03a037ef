use Rattle.std.proofs.Common.{◌≡◌, take, map}
use Rattle.angle_pairing.specs.Gathered.{start_of}
use Rattle.angle_pairing.proofs.alike.starts.Given as goal

abbrev pub invariant-loop-start : goal.invariant-loop-start
invariant-loop-start l = l.starts.items ≡ map start_of (take l.start-index l.pairs)
