use Rattle.std.proofs.Common.{[], ◌∷◌, ap, sym, subst, ◌∙◌}
use Rattle.outline_terms.specs.Outlines.{IsOutline}
use Rattle.outlines.proofs.Rounds.{ring_outline}
use Rattle.outlines.proofs.outline.Outline.ring.Goals as goal

pub of-requires : goal.of-requires
of-requires c =
    let points = c.in_ok-points.ensures in
    let loops = c.in_ok-loops.ensures ∙ ap (λ vs. vs ∷ []) c.in_ok-vertices.ensures in
    subst IsOutline (λ i. record { points = sym points i; loops = sym loops i }) (ring_outline c.args.points.now c.requires.some c.requires.few)

pub returns : goal.returns
returns c =
    let points = c.in_ok-points.ensures in
    let loops = c.in_ok-loops.ensures ∙ ap (λ vs. vs ∷ []) c.in_ok-vertices.ensures in
    c.of.ensures ∙ (λ i. record { points = points i; loops = loops i })
