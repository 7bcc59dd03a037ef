use Rattle.std.proofs.Common.{[], ◌∷◌, refl, ap, sym, subst, ◌∙◌}
use Rattle.shadow_kernels.specs.Counts.{shadow_of}
use Rattle.shadow_kernels.specs.FinePairs.{fine_one}
use Rattle.cross_section.specs.Small.{IsSmall, shadow_small}
use Rattle.cross_section.proofs.KeptNumbers.{kept_small}
use Rattle.cross_section.proofs.numbers.tests.PVerticesEdgeTests.part.Goals as goal

pub returns-clause-small : goal.returns-clause-small
returns-clause-small g c =
    let kernels = c.args.self.now.0.now in
    let p = c.args.vertex.now ∷ [] in
    let edge = c.args.edge.now in
    let size = (g.met.K.Meets-1.laws kernels).size p edge refl c.told-edge (fine_one c.args.vertex.now c.requires.vertex_fine) c.requires.edge_fine in
    kept_small c.shadow_of.result (subst IsSmall (sym (c.shadow_of.ensures ∙ ap shadow_of c.meet.ensures)) (shadow_small (g.K.Meets-1.meet_of kernels p edge) size))
