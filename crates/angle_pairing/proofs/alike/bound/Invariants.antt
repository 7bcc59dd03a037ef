use Rattle.std.proofs.Common.{take}
use Rattle.std.specs.List.{All}
use Rattle.angle_pairing.specs.Gathered.{IsPairBelow}
use Rattle.angle_pairing.proofs.alike.bound.Given as goal

-- above all so far
abbrev pub invariant-loop-start : goal.invariant-loop-start
invariant-loop-start l = All (IsPairBelow l.bound) (take l.start-index l.pairs)
