-- How often a mesh winds round a point.
use Rattle.std.specs.Prelude.{ℕ, ℤ, pos, neg_ℤ, false, List, [], ◌∷◌, get_or, length}
use Rattle.chain_terms.specs.Chains.{all_edges}
use Rattle.chain_terms.specs.Sums.{total}
use Rattle.component_terms.specs.Counts.{component_count}
use Rattle.mesh_terms.specs.Meshes.{Mesh}
use Rattle.mb_base.specs.declared.point.Corner.{Corner}
use Rattle.rounding.specs.Nearest.{nearest}
use Rattle.shadow_kernels.specs.Counts.{shadow_of}
use Rattle.shadow_kernels.specs.Rules.{grid}
use Rattle.shadow_kernels.specs.Shadows.{meet02}
use Rattle.shadow_kernels.specs.ShadowLaws.{ShadowTest}
use Rattle.mb_base.specs.declared.results.Hit.{Hit}
use Rattle.side_terms.specs.Conservation.{half_number, EdgeIdentity}
use Rattle.side_terms.specs.Corners.{corner_at}
use Rattle.side_terms.specs.Sides.{Side, corner_of, face_of}

-- the shadow of a corner of P on a face of Q
abbrev pub face_shadow : ShadowTest → Corner → List Corner → ℤ
face_shadow test p face = shadow_of (test (p ∷ []) face)

-- the shadow of a face of P on a corner of Q
abbrev pub face_shadow_back : ShadowTest → List Corner → Corner → ℤ
face_shadow_back test face q = shadow_of (test face (q ∷ []))

-- minus the sum of a corner's shadows on all faces of a side
abbrev pub minus_shadows : (List Corner → ℤ) → Side → ℤ
minus_shadows shadow faces = neg_ℤ (total (λ t. shadow (face_of faces.corners t)) faces.triples)

-- that of the corner of a vertex, by the shadows of corners on faces
abbrev pub number_at : (Corner → List Corner → ℤ) → Side → Side → ℕ → ℤ
number_at shadow vertices faces v = minus_shadows (shadow (corner_at vertices.corners v)) faces

-- the winding number of a corner of P in Q: minus the sum of its shadows on all faces
abbrev pub winding : ShadowTest → Corner → Side → ℤ
winding test p q = minus_shadows (face_shadow test p) q

-- the winding number of a corner of Q in P: minus the sum of the shadows of all faces on it
abbrev pub winding_back : ShadowTest → Side → Corner → ℤ
winding_back test p q = minus_shadows (λ face. face_shadow_back test face q) p

-- the corner of a point that is up on no axis
abbrev pub plain_corner : List ℤ → Corner
plain_corner point = corner_of point (false ∷ false ∷ false ∷ [])

-- the shadow of a point over a triangle of points, spots placed to the nearest fine step, nothing moved up
abbrev pub plain_shadow : List ℤ → List ℤ → List ℤ → List ℤ → ℤ
plain_shadow p a b c = shadow_of (meet02 grid nearest (plain_corner p) (plain_corner a) (plain_corner b) (plain_corner c))

-- the winding number of a point in a mesh: minus the sum of its shadows over all triangles
abbrev pub winding_at : List ℤ → Mesh → ℤ
winding_at point mesh =
    neg_ℤ (total (λ t. plain_shadow point (get_or mesh.points t.0 []) (get_or mesh.points t.1 []) (get_or mesh.points t.2 [])) mesh.triples)

-- along each half-edge of a side the winding number of its vertices changes by minus the half-edge's numbers with all faces of the other
abbrev pub EdgesConserve : Side → Side → List ℤ → List Hit → Type 0
EdgesConserve edges faces windings hits =
    EdgeIdentity (all_edges edges.triples) (length faces.triples) (λ v. get_or windings v (pos 0)) (half_number (all_edges edges.triples) hits)

-- how many connected components the mesh of a side has
abbrev pub components_of : Side → ℕ
components_of side = component_count (length side.corners) (all_edges side.triples)
