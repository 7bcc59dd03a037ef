use Rattle.std.proofs.Common.{◌≡◌, [], ◌∷◌, arith, refl, ap, ◌∙◌}
use Rattle.std.proofs.lemmas.Int.{ints}
use Rattle.shadow_kernels.specs.Counts.{shadow_of}
use Rattle.shadow_kernels.specs.FinePairs.{fine_one}
use Rattle.winding.proofs.Steps.{shadow_within}
use Rattle.winding.proofs.shadows.PVerticesVertexFace.shadow.Goals as goal

pub returns-clause-size : goal.returns-clause-size
returns-clause-size g c =
    let p = c.args.vertex.now ∷ [] in
    let face = c.args.face.now in
    let kernels = c.args.self.now.0.now in
    let s = shadow_within (g.K.Meets.meet_of kernels p face)
    ((g.met.K.Meets.laws kernels).size p face refl c.told-face (fine_one c.args.vertex.now c.requires.vertex_fine) c.requires.face_fine) in
    let is : c.shadow_of.result ≡ shadow_of (g.K.Meets.meet_of kernels p face) = c.shadow_of.ensures ∙ ap shadow_of c.meet.ensures in
    (omega (arith, ints, s, is), omega (arith, ints, s, is))
