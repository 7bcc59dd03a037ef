use Rattle.std.proofs.Common.{◌<ℤ◌, subst}
use Rattle.std.specs.List.{All}
use Rattle.std.proofs.lemmas.List.{take_all}
use Rattle.std.proofs.lemmas.List.Elements.{All-more}
use Rattle.side_terms.specs.Corners.{axis, blank_corner}
use Rattle.shadow_kernels.proofs.grid_rule.is_below.Goals as goal

pub loop-p-preserved : goal.loop-p-preserved
loop-p-preserved c =
    All-more (λ a. All (λ b. axis 2 a <ℤ axis 2 b) c.args.qs.now) c.args.ps.now c.loop-p.p-index blank_corner c.loop-p-test.true c.loop-p.invariant
    (c.is_lower.ensures c.if-not-is_lower.false)

pub returns : goal.returns
returns c =
    let all = take_all c.loop-p.p-index c.args.ps.now c.loop-p-test.false in
    λ t. record { below = subst (λ l. All (λ a. All (λ b. axis 2 a <ℤ axis 2 b) c.args.qs.now) l) all c.loop-p.invariant }
