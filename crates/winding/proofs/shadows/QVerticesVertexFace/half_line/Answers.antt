use Rattle.std.proofs.Common.{◌∙◌, ◌∷◌, [], List, FitsSigned, w64, rules, ap, sym, subst}
use Rattle.std.proofs.lemmas.Int.{to_z-of_z}
use Rattle.mb_base.specs.declared.point.Corner.{Corner}
use Rattle.side_terms.specs.Corners.{axis}
use Rattle.side_terms.specs.Fine.{fine_edge}
use Rattle.shadow_kernels.specs.Counts.{shadow_of}
use Rattle.winding.specs.Lines.{line_at, HasShadowsIn}
use Rattle.winding.proofs.Lines.{shadows_above}
use Rattle.winding.proofs.shadows.QVerticesVertexFace.half_line.Goals as goal

pub returns : goal.returns
returns g c =
    let k = c.args.self.now.0.now in
    let q = c.args.vertex.now in
    let fits : FitsSigned w64 (axis 2 q) = search rules in
    subst (λ area. HasShadowsIn area (λ (face : List Corner). shadow_of (g.K.Meets.meet_of k face (q ∷ []))))
    (sym (c.line_at.ensures ∙ ap (λ low. line_at q low fine_edge) (to_z-of_z w64 (axis 2 q) fits)))
    (shadows_above (g.K.Meets.meet_of k) q (g.met.K.Meets.laws k) c.requires)
