use Rattle.std.proofs.Common.{◌≡◌, take, map}
use Rattle.sheet_terms.specs.Chains.{upward}
use Rattle.angle_pairing.proofs.alike.upward.Given as goal

abbrev pub invariant-loop-a : goal.invariant-loop-a
invariant-loop-a l = l.ways.items ≡ map upward (take l.a-index l.edges)
