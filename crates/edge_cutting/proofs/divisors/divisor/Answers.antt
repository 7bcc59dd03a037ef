use Rattle.std.proofs.Common.{arith}
use Rattle.std.proofs.lemmas.Nat.Gcd.{IsGcd-from_mod, IsGcd-from_zero}
use Rattle.edge_cutting.proofs.divisors.divisor.Goals as goal

pub loop-other-preserved : goal.loop-other-preserved
loop-other-preserved c = λ g is. c.loop-other.invariant g (IsGcd-from_mod c.loop-other.one c.loop-other.other g is)

pub returns : goal.returns
returns c = c.loop-other.invariant c.loop-other.one (IsGcd-from_zero c.loop-other.one c.loop-other.other (omega (arith, c.loop-other-test.false)))
