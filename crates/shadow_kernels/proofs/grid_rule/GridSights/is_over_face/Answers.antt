use Rattle.std.proofs.Common.{◌≡◌, subst, sym, IfSome}
use Rattle.side_terms.specs.Corners.{corner_at}
use Rattle.shadow_kernels.specs.declared.Edge.{Edge}
use Rattle.shadow_kernels.specs.Levels.{face_meet}
use Rattle.shadow_kernels.specs.Rules.{grid}
use Rattle.shadow_kernels.specs.Shadows.{meet02, meet20}
use Rattle.shadow_kernels.proofs.grid_rule.GridSights.is_over_face.Goals as goal

pub returns-in-OfP : goal.returns-in-OfP
unfolding meet20
returns-in-OfP g c =
    subst (λ (e : Edge). IfSome (face_meet e grid (g.R.Rounding.between_of c.args.self.now.rounding) c.args.vertex.now (corner_at c.args.face.now 0)
    (corner_at c.args.face.now 1) (corner_at c.args.face.now 2)) (λ m. m.above ≡ c.is_face_above_vertex.result))
    (sym c.in-OfP.is) c.is_face_above_vertex.ensures

pub returns-in-OfQ : goal.returns-in-OfQ
unfolding meet02
returns-in-OfQ g c =
    subst (λ (e : Edge). IfSome (face_meet e grid (g.R.Rounding.between_of c.args.self.now.rounding) c.args.vertex.now (corner_at c.args.face.now 0)
    (corner_at c.args.face.now 1) (corner_at c.args.face.now 2)) (λ m. m.above ≡ c.is_vertex_above_face.result))
    (sym c.in-OfQ.is) c.is_vertex_above_face.ensures
