use Rattle.std.proofs.Common.{sym, ◌∙◌}
use Rattle.ring_cutting.proofs.Thirdly.{third_some}
use Rattle.ring_cutting.proofs.asked.near_third.Goals as goal

pub returns-then-is_third : goal.returns-then-is_third
returns-then-is_third c =
    λ y. third_some c.args.places.now c.args.living.now c.args.i c.args.p c.args.n c.args.near.0 c.requires.long
    (sym c.is_third.ensures ∙ c.if-is_third.true)

pub returns-else-is_third : goal.returns-else-is_third
returns-else-is_third c =
    λ y. third_some c.args.places.now c.args.living.now c.args.i c.args.p c.args.n c.args.near.1 c.requires.long
    (sym c.is_third-else-is_third.ensures ∙ y)
