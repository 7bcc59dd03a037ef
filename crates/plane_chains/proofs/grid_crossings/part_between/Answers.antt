use Rattle.std.proofs.Common.{IfNone, false, subst, sym, ◌≡◌, ◌∙◌}
use Rattle.std.specs.Int.{w128}
use Rattle.std.proofs.lemmas.Int.{to_z-of_z}
use Rattle.plane_chains.specs.Parts.{is_whole_between}
use Rattle.plane_chains.proofs.GridPoints.{part_some}
use Rattle.plane_chains.proofs.PartWays.{moved_grid, moved_is, not_whole, product_small, result_grid}
use Rattle.plane_chains.proofs.grid_crossings.part_between.Goals as goal

pub whole_quotient-requires-clause-some : goal.whole_quotient-requires-clause-some
whole_quotient-requires-clause-some c = λ e. part_some c.args.part c.args.whole c.requires.part (sym (to_z-of_z w128 c.args.whole c.ranges.whole) ∙ e)

pub whole_quotient-requires-clause-small : goal.whole_quotient-requires-clause-small
whole_quotient-requires-clause-small c =
    product_small c.args.from c.args.to c.args.part c.args.whole c.way.result c.multiple.result c.ranges.from c.ranges.to c.ranges.part c.ranges.whole
    (record { sfits = c.way.type_inv }) (record { sfits = c.multiple.type_inv }) c.way.ensures.value c.multiple.ensures c.way.ensures.small c.requires.small

pub returns-in_err-step-clause-none : goal.returns-in_err-step-clause-none
returns-in_err-step-clause-none c =
    subst (λ r. IfNone r (is_whole_between c.args.part c.args.whole c.args.from c.args.to ≡ false)) (sym c.from_residual.ensures)
    (not_whole c.args.from c.args.to c.args.part c.args.whole c.way.result c.multiple.result c.ranges.from c.ranges.to c.ranges.part c.ranges.whole
    (record { sfits = c.way.type_inv }) (record { sfits = c.multiple.type_inv }) c.way.ensures.value c.multiple.ensures c.in_err-step.ensures.none)

pub moved-requires-clause-to : goal.moved-requires-clause-to
moved-requires-clause-to c =
    moved_grid c.args.from c.args.to c.args.part c.args.whole c.way.result c.multiple.result c.ranges.from c.ranges.to c.ranges.part c.ranges.whole
    (record { sfits = c.way.type_inv }) (record { sfits = c.multiple.type_inv }) c.way.ensures.value c.multiple.ensures c.in_ok-step.step c.in_ok-step.ensures.some
    c.requires.part c.requires.from c.requires.to

pub returns-clause-some : goal.returns-clause-some
returns-clause-some c =
    moved_is c.args.from c.args.to c.args.part c.args.whole c.way.result c.multiple.result c.ranges.from c.ranges.to c.ranges.part c.ranges.whole
    (record { sfits = c.way.type_inv }) (record { sfits = c.multiple.type_inv }) c.way.ensures.value c.multiple.ensures c.in_ok-step.step c.in_ok-step.ensures.some
    c.requires.part c.requires.from c.requires.to c.moved.result c.moved.ensures

pub returns-clause-grid : goal.returns-clause-grid
returns-clause-grid c =
    result_grid c.args.from c.args.to c.args.part c.args.whole c.way.result c.multiple.result c.ranges.from c.ranges.to c.ranges.part c.ranges.whole
    (record { sfits = c.way.type_inv }) (record { sfits = c.multiple.type_inv }) c.way.ensures.value c.multiple.ensures c.in_ok-step.step c.in_ok-step.ensures.some
    c.requires.part c.requires.from c.requires.to c.moved.result c.moved.ensures
