use Rattle.std.specs.Int.{◌∣◌}
use Rattle.std.specs.Prelude.{pos, ◌*ℤ◌, unsigned_abs}
use Rattle.std.proofs.Common.{subst, ap, sym, ◌∙◌}
use Rattle.edge_cutting.proofs.Parts.{kept_coordinate, kept_small, kept_way, leads_to}
use Rattle.edge_cutting.proofs.steps.Steps.between.Goals as goal

pub part-requires-clause-whole : goal.part-requires-clause-whole
part-requires-clause-whole c =
    subst (λ t. c.common_step-count.result ∣ unsigned_abs t)
    (kept_way c.args.a c.args.b c.at.result c.at-2.result 0 c.at.ensures.value c.at-2.ensures.value c.at.ensures.on_grid.x c.at-2.ensures.on_grid.x)
    c.common_step-count.ensures.common.first

pub part-requires-2-clause-whole : goal.part-requires-2-clause-whole
part-requires-2-clause-whole c =
    subst (λ t. c.common_step-count.result ∣ unsigned_abs t)
    (kept_way c.args.a c.args.b c.at.result c.at-2.result 1 c.at.ensures.value c.at-2.ensures.value c.at.ensures.on_grid.y c.at-2.ensures.on_grid.y)
    c.common_step-count.ensures.common.second

pub part-requires-3-clause-whole : goal.part-requires-3-clause-whole
part-requires-3-clause-whole c =
    subst (λ t. c.common_step-count.result ∣ unsigned_abs t)
    (kept_way c.args.a c.args.b c.at.result c.at-2.result 2 c.at.ensures.value c.at-2.ensures.value c.at.ensures.on_grid.z c.at-2.ensures.on_grid.z)
    c.common_step-count.ensures.common.third

pub returns-clause-leads : goal.returns-clause-leads
returns-clause-leads c =
    let g = c.common_step-count.result in
    let a = c.at.ensures.on_grid in
    let b = c.at-2.ensures.on_grid in
    leads_to c.args.a c.args.b _ (c.common_step-count.ensures.some c.requires) c.common_step-count.ensures.common
    (kept_coordinate c.args.a c.at.result 0 c.from.result c.at.ensures.value a.x c.from.ensures)
    (kept_coordinate c.args.a c.at.result 1 c.from-2.result c.at.ensures.value a.y c.from-2.ensures)
    (kept_coordinate c.args.a c.at.result 2 c.from-3.result c.at.ensures.value a.z c.from-3.ensures)
    (kept_way c.args.a c.args.b c.at.result c.at-2.result 0 c.at.ensures.value c.at-2.ensures.value a.x b.x ∙ c.part.ensures.value
    ∙ ap (λ t. pos g *ℤ t) (sym (kept_small c.part.result c.part.ensures.small)))
    (kept_way c.args.a c.args.b c.at.result c.at-2.result 1 c.at.ensures.value c.at-2.ensures.value a.y b.y ∙ c.part-2.ensures.value
    ∙ ap (λ t. pos g *ℤ t) (sym (kept_small c.part-2.result c.part-2.ensures.small)))
    (kept_way c.args.a c.args.b c.at.result c.at-2.result 2 c.at.ensures.value c.at-2.ensures.value a.z b.z ∙ c.part-3.ensures.value
    ∙ ap (λ t. pos g *ℤ t) (sym (kept_small c.part-3.result c.part-3.ensures.small)))
