-- A vertex and a face, by the side of the edge and by that of the face.
use Rattle.std.proofs.Common.{◌≡◌, ap}
use Rattle.mb_base.specs.declared.point.Corner.{Corner}
use Rattle.shadow_kernels.specs.declared.Edge.{Edge}
use Rattle.shadow_kernels.specs.declared.Edge.TheVariants.{OfP, OfQ}
use Rattle.shadow_kernels.specs.Spots.{Between}
use Rattle.shadow_kernels.specs.Rules.{Rule}
use Rattle.shadow_kernels.specs.Shadows.{meet02, meet20}
use Rattle.shadow_kernels.specs.Levels as Levels
use Rattle.edge_face.specs.Sides as Sides

-- the answer is the same
pub faced : (e f : Edge) (k : Rule) (w : Between) (v a b c : Corner) → f ≡ Sides.flip e → Levels.face_meet f k w v a b c ≡ Sides.face_meet e k w v a b c
unfolding meet02 meet20
faced OfP f k w v a b c h = ap (λ (g : Edge). Levels.face_meet g k w v a b c) h
faced OfQ f k w v a b c h = ap (λ (g : Edge). Levels.face_meet g k w v a b c) h
