use Rattle.std.proofs.Common.{◌∙◌, ◌∷◌, [], List, FitsSigned, neg_ℤ, w64, rules, ap, sym, subst}
use Rattle.std.proofs.lemmas.Int.{to_z-of_z}
use Rattle.mb_base.specs.declared.point.Corner.{Corner}
use Rattle.side_terms.specs.Corners.{axis}
use Rattle.side_terms.specs.Fine.{fine_edge}
use Rattle.shadow_kernels.specs.Counts.{shadow_of}
use Rattle.winding.specs.Lines.{line_at, HasShadowsIn}
use Rattle.winding.proofs.Lines.{shadows_below}
use Rattle.winding.proofs.shadows.PVerticesVertexFace.half_line.Goals as goal

pub returns : goal.returns
returns g c =
    let k = c.args.self.now.0.now in
    let p = c.args.vertex.now in
    let fits : FitsSigned w64 (axis 2 p) = search rules in
    subst (λ area. HasShadowsIn area (λ (face : List Corner). shadow_of (g.K.Meets.meet_of k (p ∷ []) face)))
    (sym (c.line_at.ensures ∙ ap (line_at p (neg_ℤ fine_edge)) (to_z-of_z w64 (axis 2 p) fits)))
    (shadows_below (g.K.Meets.meet_of k) p (g.met.K.Meets.laws k) c.requires)
