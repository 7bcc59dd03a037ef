use Rattle.std.proofs.Common.{[], ◌∷◌, neg_ℤ, refl, ap, sym, subst, ◌∙◌}
use Rattle.shadow_kernels.specs.Counts.{shadow_of}
use Rattle.shadow_kernels.specs.FinePairs.{fine_one}
use Rattle.cross_section.specs.Small.{IsSmall, shadow_small}
use Rattle.cross_section.proofs.KeptNumbers.{kept, kept_small}
use Rattle.cross_section.proofs.numbers.tests.QVerticesEdgeTests.part.Given.{Over}
use Rattle.cross_section.proofs.numbers.tests.QVerticesEdgeTests.part.Goals.{After-shadow_of}
use Rattle.cross_section.proofs.numbers.tests.QVerticesEdgeTests.part.Goals as goal

-- the shadow is -1, 0 or 1
small : (g : Over) (c : After-shadow_of g) → IsSmall c.shadow_of.result
small g c =
    let kernels = c.args.self.now.0.now in
    let edge = c.args.edge.now in
    let q = c.args.vertex.now ∷ [] in
    let size = (g.met.K.Meets-1.laws kernels).size edge q c.told-edge refl c.requires.edge_fine (fine_one c.args.vertex.now c.requires.vertex_fine) in
    subst IsSmall (sym (c.shadow_of.ensures ∙ ap shadow_of c.meet.ensures)) (shadow_small (g.K.Meets-1.meet_of kernels edge q) size)

pub turned-requires : goal.turned-requires
turned-requires g c = kept_small c.shadow_of.result (small g (goal.at.turned-requires g c).After-shadow_of)

pub returns-clause-value : goal.returns-clause-value
returns-clause-value g c =
    kept c.turned.result c.turned.ensures.small ∙ c.turned.ensures.value
    ∙ ap neg_ℤ (kept c.shadow_of.result (small g (goal.at.returns-clause-value g c).After-shadow_of) ∙ c.shadow_of.ensures ∙ ap shadow_of c.meet.ensures)

pub returns-clause-small : goal.returns-clause-small
returns-clause-small g c = kept_small c.turned.result c.turned.ensures.small
