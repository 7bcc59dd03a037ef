use Rattle.std.proofs.Common.{◌∙◌, [], ◌∷◌, ap}
use Rattle.side_terms.specs.Corners.{corner_at}
use Rattle.side_terms.specs.Sides.{Side}
use Rattle.lean.proofs.surface.Surface.edge.Goals as goal

pub returns-clause-value : goal.returns-clause-value
returns-clause-value c =
    let corner = corner_at c.args.self.now.corners in
    let next = rw (ap (λ (s : Side). s.triples) c.self.view_is) at c.next.ensures.from in
    let from = c.corner.ensures.value ∙ ap corner c.start-from.ensures.value in
    let to = c.corner-2.ensures.value ∙ ap corner (c.start-to.ensures.value ∙ next) in
    λ i. from i ∷ to i ∷ []
