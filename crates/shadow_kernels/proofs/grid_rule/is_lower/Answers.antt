use Rattle.std.proofs.Common.{arith, ◌<ℤ◌, subst}
use Rattle.std.specs.List.{All}
use Rattle.std.proofs.lemmas.Int.{ints}
use Rattle.std.proofs.lemmas.List.{take_all}
use Rattle.std.proofs.lemmas.List.Elements.{All-more}
use Rattle.side_terms.specs.Corners.{axis, blank_corner}
use Rattle.shadow_kernels.proofs.grid_rule.is_lower.Goals as goal

pub loop-c-preserved : goal.loop-c-preserved
loop-c-preserved c = All-more (λ x. axis 2 c.args.low.now <ℤ axis 2 x) c.args.corners.now c.loop-c.c-index blank_corner c.loop-c-test.true c.loop-c.invariant (omega (arith, ints))

pub returns : goal.returns
returns c =
    let all = take_all c.loop-c.c-index c.args.corners.now c.loop-c-test.false in λ t. subst (λ l. All (λ x. axis 2 c.args.low.now <ℤ axis 2 x) l) all c.loop-c.invariant
