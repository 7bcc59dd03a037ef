use Rattle.std.proofs.Common.{ap, sym, subst, ◌∙◌}
use Rattle.shadow_kernels.specs.Counts.{count_of}
use Rattle.cross_section.specs.Small.{IsSmall, count_small}
use Rattle.cross_section.proofs.KeptNumbers.{kept_small}
use Rattle.cross_section.proofs.numbers.tests.PVerticesEdgeTests.change.Goals as goal

pub returns-clause-small : goal.returns-clause-small
returns-clause-small g c =
    let kernels = c.args.self.now.0.now in
    let way = c.args.way.now in
    let edge = c.args.edge.now in
    let size = (g.met.K.Meets-2.laws kernels).size way edge c.told-way c.told-edge c.requires.way_fine c.requires.edge_fine in
    kept_small c.count_of.result (subst IsSmall (sym (c.count_of.ensures ∙ ap count_of c.meet.ensures)) (count_small (g.K.Meets-2.meet_of kernels way edge) size))
