use Rattle.std.proofs.Common.{◌<◌, ◌^◌, rules, inl, inr}
use Rattle.std.proofs.lemmas.Bool.{both_ways, cases_lt}
use Rattle.tidy_terms.specs.PointTriples.{same_point}
use Rattle.edge_cutting.specs.Spans.{IsCommonStep}
use Rattle.edge_cutting.proofs.Parts.{common_small, no_step}
use Rattle.edge_cutting.proofs.steps.common_step.Goals as goal

pub returns-clause-some : goal.returns-clause-some
returns-clause-some c = λ apart.
    let g = c.common_divisor.result in
    let all : IsCommonStep c.args.a c.args.b g = search rules in
    elim (cases_lt 0 g) as (λ _. 0 < g) [
      | inl l ↦ l
      | inr l ↦ absurd (both_ways (same_point c.args.a c.args.b) apart (no_step c.args.a c.args.b g all l))
    ]

pub returns-clause-small : goal.returns-clause-small
returns-clause-small c =
    common_small c.step.result c.step-2.result c.step-3.result c.common_divisor.result (2 ^ 31) c.common_divisor.ensures c.step.ensures.small
    c.step-2.ensures.small c.step-3.ensures.small
