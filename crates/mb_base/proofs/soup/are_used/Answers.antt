use Rattle.std.proofs.Common.{arith}
use Rattle.std.proofs.lemmas.Grind.{common_steps}
use Rattle.mb_base.proofs.soup.are_used.Goals as goal

pub returns-then-not-is_used : goal.returns-then-not-is_used
returns-then-not-is_used c =
    (λ no. cc, λ all. let used = all c.loop-point.point (omega arith) in grind (arith, common_steps, used))
