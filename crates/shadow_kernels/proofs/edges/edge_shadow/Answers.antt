use Rattle.std.proofs.Common.{rules, ap, ◌∙◌}
use Rattle.shadow_kernels.specs.Counts.{shadow_of}
use Rattle.shadow_kernels.specs.Rules.{spot_and_side}
use Rattle.shadow_kernels.proofs.Branches.{first_alone, second_alone, at_neither, at_first, at_second, shadow_at}
use Rattle.shadow_kernels.proofs.Values.{kept_unit}
use Rattle.shadow_kernels.proofs.edges.edge_shadow.Goals as goal

pub returns-then-past_c-past_d-clause-value : goal.returns-then-past_c-past_d-clause-value
returns-then-past_c-past_d-clause-value g c =
    ap shadow_of (at_neither c.args.edge _ _ c.args.vertex.now c.args.c.now c.args.d.now c.is_past-past_c.ensures c.is_past-past_d.ensures c.if-past_c-past_d.true)

pub returns-then-past_c-clause-value : goal.returns-then-past_c-clause-value
returns-then-past_c-clause-value g c =
    kept_unit c.counted.result (search rules)
    ∙ shadow_at (spot_and_side (g.K.Rules.rule_of c.args.kernel.now) (g.K.Rounding.between_of c.args.kernel.now) c.args.edge c.args.vertex.now c.args.c.now c.args.d.now)
    (at_first c.args.edge _ _ c.args.vertex.now c.args.c.now c.args.d.now
    (first_alone c.is_past-past_c.ensures c.is_past-past_d.ensures c.if-past_c-past_d.false c.if-past_c.true)) c.is_over_edge.ensures c.counted.ensures

pub returns-else-past_c-clause-value : goal.returns-else-past_c-clause-value
returns-else-past_c-clause-value g c =
    kept_unit c.counted-else-past_c.result (search rules)
    ∙ shadow_at (spot_and_side (g.K.Rules.rule_of c.args.kernel.now) (g.K.Rounding.between_of c.args.kernel.now) c.args.edge c.args.vertex.now c.args.d.now c.args.c.now)
    (at_second c.args.edge _ _ c.args.vertex.now c.args.c.now c.args.d.now
    (second_alone c.is_past-past_c.ensures c.is_past-past_d.ensures c.if-past_c-past_d.false c.if-past_c.false)) c.is_over_edge-else-past_c.ensures
    c.counted-else-past_c.ensures
