use Rattle.std.proofs.Common.{neg_ℤ, ap, sym, subst, ◌∙◌}
use Rattle.shadow_kernels.specs.Counts.{count_of}
use Rattle.cross_section.specs.Small.{IsSmall, count_small}
use Rattle.cross_section.proofs.KeptNumbers.{kept, kept_small}
use Rattle.cross_section.proofs.numbers.tests.QVerticesEdgeTests.change.Given.{Over}
use Rattle.cross_section.proofs.numbers.tests.QVerticesEdgeTests.change.Goals.{After-count_of}
use Rattle.cross_section.proofs.numbers.tests.QVerticesEdgeTests.change.Goals as goal

-- the count is -1, 0 or 1
small : (g : Over) (c : After-count_of g) → IsSmall c.count_of.result
small g c =
    let kernels = c.args.self.now.0.now in
    let edge = c.args.edge.now in
    let way = c.args.way.now in
    let size = (g.met.K.Meets-2.laws kernels).size edge way c.told-edge c.told-way c.requires.edge_fine c.requires.way_fine in
    subst IsSmall (sym (c.count_of.ensures ∙ ap count_of c.meet.ensures)) (count_small (g.K.Meets-2.meet_of kernels edge way) size)

pub turned-requires : goal.turned-requires
turned-requires g c = kept_small c.count_of.result (small g (goal.at.turned-requires g c).After-count_of)

pub returns-clause-value : goal.returns-clause-value
returns-clause-value g c =
    kept c.turned.result c.turned.ensures.small ∙ c.turned.ensures.value
    ∙ ap neg_ℤ (kept c.count_of.result (small g (goal.at.returns-clause-value g c).After-count_of) ∙ c.count_of.ensures ∙ ap count_of c.meet.ensures)

pub returns-clause-small : goal.returns-clause-small
returns-clause-small g c = kept_small c.turned.result c.turned.ensures.small
