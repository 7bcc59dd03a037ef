use Rattle.std.proofs.Common.{ℕ}
use Rattle.std.specs.Int.{IsGcd}
use Rattle.edge_cutting.proofs.divisors.divisor.Given as goal

-- the greatest common divisor of the two at hand is that of the given ones
abbrev pub invariant-loop-other : goal.invariant-loop-other
invariant-loop-other l = (g : ℕ) → IsGcd l.one l.other g → IsGcd l.a l.b g

abbrev pub decreases-loop-other : goal.decreases-loop-other
decreases-loop-other l = l.other
