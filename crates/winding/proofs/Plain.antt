-- Corners whose marks are all unset give the winding numbers of their mesh.
use Rattle.std.proofs.Common.{arith, ◌≡◌, ◌<◌, ℕ, ℤ, neg_ℤ, Bool, false, List, [], ◌∷◌, length, replicate, get_or, refl, ap, ◌∙◌}
use Rattle.std.specs.List.{All}
use Rattle.std.proofs.lemmas.List.{get_or-replicate, length-replicate}
use Rattle.chain_terms.specs.Sums.{total}
use Rattle.chain_laws.specs.Sums.{total-same_all}
use Rattle.mesh_terms.specs.Meshes.{Mesh, Triple, IsBelow}
use Rattle.mb_base.specs.declared.point.Corner.{Corner}
use Rattle.side_terms.specs.Corners.{corner_at}
use Rattle.rounding.specs.Nearest.{nearest}
use Rattle.shadow_kernels.specs.Rules.{grid}
use Rattle.shadow_kernels.specs.Shadows.{meet02}
use Rattle.shadow_kernels.specs.ShadowLaws.{ShadowTest}
use Rattle.side_terms.specs.Sides.{corner_of, corners_of, face_of}
use Rattle.lean.proofs.Corners.{corners_at}
use Rattle.winding.specs.Windings.{face_shadow, plain_corner, plain_shadow, winding_at}

abbrev pub no_marks : List Bool
no_marks = false ∷ false ∷ false ∷ []

-- the shadow test of a vertex and a face on the grid
abbrev pub nearest_test : ShadowTest
nearest_test p q = meet02 grid nearest (corner_at p 0) (corner_at q 0) (corner_at q 1) (corner_at q 2)

-- a corner without marks
pub plain_at : (points : List (List ℤ)) (i : ℕ) → i < length points → corner_at (corners_of points (replicate (length points) no_marks)) i ≡ plain_corner (get_or points i [])
plain_at points i h =
    let n = length points in
    corners_at points (replicate n no_marks) i h (omega (arith, length-replicate n no_marks, h)) ∙ ap (corner_of (get_or points i [])) (get_or-replicate n i no_marks [] h)

-- the shadow over one face
pub plain_face : (point : List ℤ) (points : List (List ℤ)) (t : Triple) → IsBelow (length points) t →
    face_shadow nearest_test (plain_corner point) (face_of (corners_of points (replicate (length points) no_marks)) t)
    ≡ plain_shadow point (get_or points t.0 []) (get_or points t.1 []) (get_or points t.2 [])
plain_face point points t h = rw (plain_at points t.0 h.a, plain_at points t.1 h.b, plain_at points t.2 h.c) refl

-- the sum over all triangles on such corners
pub plain_winding : (point : List ℤ) (mesh : Mesh) (p : Corner) (corners : List Corner) (ups : List (List Bool)) → p ≡ plain_corner point → corners ≡ corners_of mesh.points ups →
    ups ≡ replicate (length mesh.points) no_marks → All (IsBelow (length mesh.points)) mesh.triples →
    neg_ℤ (total (λ t. face_shadow nearest_test p (face_of corners t)) mesh.triples) ≡ winding_at point mesh
plain_winding point mesh p corners ups at are plain below =
    let sum : Corner → List Corner → ℤ = λ q cs. neg_ℤ (total (λ (t : Triple). face_shadow nearest_test q (face_of cs t)) mesh.triples) in
    let cs = corners_of mesh.points (replicate (length mesh.points) no_marks) in
    let f : Triple → ℤ = λ t. face_shadow nearest_test (plain_corner point) (face_of cs t) in
    let g : Triple → ℤ = λ t. plain_shadow point (get_or mesh.points t.0 []) (get_or mesh.points t.1 []) (get_or mesh.points t.2 []) in
    ap (λ q. sum q corners) at ∙ ap (sum (plain_corner point)) (are ∙ ap (corners_of mesh.points) plain)
    ∙ ap neg_ℤ (total-same_all f g mesh.triples (λ k d h. plain_face point mesh.points (get_or mesh.triples k d) (below k d h)))
