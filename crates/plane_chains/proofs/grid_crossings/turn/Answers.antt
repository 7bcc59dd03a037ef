use Rattle.std.proofs.Common.{◌*ℤ◌, ◌-ℤ◌, ◌∙◌}
use Rattle.plane_chains.proofs.TurnParts.{difference_shown, difference_small, step_shown}
use Rattle.plane_chains.proofs.grid_crossings.turn.Goals as goal

pub returns-clause-value : goal.returns-clause-value
returns-clause-value c =
    let one = step_shown c.step.result c.u.result c.u-2.result c.args.a.0 c.args.b.0 c.step.ensures.value c.u.ensures.value c.u-2.ensures.value c.u.ensures.on_grid
    c.u-2.ensures.on_grid in
    let two = step_shown c.step-2.result c.v.result c.v-2.result c.args.a.1 c.args.c.1 c.step-2.ensures.value c.v.ensures.value c.v-2.ensures.value c.v.ensures.on_grid
    c.v-2.ensures.on_grid in
    let three = step_shown c.step-3.result c.v-3.result c.v-4.result c.args.a.1 c.args.b.1 c.step-3.ensures.value c.v-3.ensures.value c.v-4.ensures.value
    c.v-3.ensures.on_grid c.v-4.ensures.on_grid in
    let four = step_shown c.step-4.result c.u-3.result c.u-4.result c.args.a.0 c.args.c.0 c.step-4.ensures.value c.u-3.ensures.value c.u-4.ensures.value
    c.u-3.ensures.on_grid c.u-4.ensures.on_grid in
    difference_shown c.difference.result c.product-along.result c.product-against.result c.difference.ensures c.product-along.ensures.small c.product-against.ensures.small
    ∙ (λ i. c.product-along.ensures.value i -ℤ c.product-against.ensures.value i) ∙ (λ i. one i *ℤ two i -ℤ three i *ℤ four i)

pub returns-clause-small : goal.returns-clause-small
returns-clause-small c =
    difference_small c.difference.result c.product-along.result c.product-against.result c.difference.ensures c.product-along.ensures.small c.product-against.ensures.small
