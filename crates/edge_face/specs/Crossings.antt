-- How often an edge crosses a face, and where.
use Rattle.std.specs.Prelude.{ℤ, pos, ◌-ℤ◌, true, false, if◌then◌else◌, Option, None, Some, List, [], ◌∷◌, map}
use Rattle.std.specs.Ordering.{int_eq}
use Rattle.chain_terms.specs.Sums.{total}
use Rattle.mb_base.specs.declared.point.Corner.{Corner}
use Rattle.side_terms.specs.Corners.{corner_at}
use Rattle.shadow_kernels.specs.declared.Spot.{Spot}
use Rattle.shadow_kernels.specs.declared.Meet.{Meet}
use Rattle.shadow_kernels.specs.Spots.{Between, gap}
use Rattle.shadow_kernels.specs.Rules.{Rule}
use Rattle.shadow_kernels.specs.Counts.{shadow_of, first_spot}
use Rattle.shadow_kernels.specs.ShadowLaws.{ShadowTest}
use Rattle.shadow_kernels.specs.Shadows.{edge_edge, vertex_face, face_vertex}
use Rattle.edge_face.specs.declared.Cross.{Cross}

-- the number of an answer, 0 where there is none
abbrev pub number_of : Option Cross → ℤ
number_of None = pos 0
number_of (Some c) = c.number

-- the three edges of a face, each from its start to its end
abbrev pub face_edges : Corner → Corner → Corner → List (List Corner)
face_edges u v w = (u ∷ v ∷ []) ∷ (v ∷ w ∷ []) ∷ (w ∷ u ∷ []) ∷ []

-- a test asked with Q's corners first: so what is said of an edge of P and a face of Q is said of an edge of Q and a face of P
abbrev pub mirror : ShadowTest → ShadowTest
mirror test = λ q p. test p q

-- the answers of the start and the end of the edge from a to b with a face, by the test `ends`, and of the edge with each edge of the face, by `edges`
abbrev pub edge_pairs : ShadowTest → ShadowTest → Corner → Corner → Corner → Corner → Corner → List (Option Meet)
edge_pairs ends edges a b u v w = ends (a ∷ []) (u ∷ v ∷ w ∷ []) ∷ ends (b ∷ []) (u ∷ v ∷ w ∷ []) ∷ map (edges (a ∷ b ∷ [])) (face_edges u v w)

-- the number of crossings: the shadow of the end less that of the start, less those of the edge with the edges of the face
abbrev pub edge_number : ShadowTest → ShadowTest → Corner → Corner → Corner → Corner → Corner → ℤ
edge_number ends edges a b u v w =
    shadow_of (ends (b ∷ []) (u ∷ v ∷ w ∷ [])) -ℤ shadow_of (ends (a ∷ []) (u ∷ v ∷ w ∷ [])) -ℤ total (λ e. shadow_of (edges (a ∷ b ∷ []) e)) (face_edges u v w)

-- the grid step of a fine coordinate
abbrev pub Settle : Type 0
Settle = ℤ → ℤ

-- a point between two spots, weighted by their gaps in z: the values x, y and z, settled
abbrev pub point_between : Between → Settle → (Spot → ℤ) → (Spot → ℤ) → (Spot → ℤ) → Spot → Spot → List ℤ
point_between between settle x y z d u =
    let on : (Spot → ℤ) → ℤ = λ value. settle (between (value d) (value u) (gap d.pz d.qz) (gap u.pz u.qz)) in on x ∷ on y ∷ on z ∷ []

-- by P's values, and by Q's
unfoldable pub p_point : Between → Settle → Spot → Spot → List ℤ
p_point between settle d u = point_between between settle (λ s. s.x) (λ s. s.py) (λ s. s.pz) d u

unfoldable pub q_point : Between → Settle → Spot → Spot → List ℤ
q_point between settle d u = point_between between settle (λ s. s.x) (λ s. s.qy) (λ s. s.qz) d u

-- the answer of a number: none where it is 0
unfoldable pub crossed : ℤ → List ℤ → Option Cross
crossed number at = if int_eq number (pos 0) then None else Some (record { number = number; at = at })

-- the crossing of the edge from a to b and a face: `place` puts the point between the first pair that is not above and the first that is
unfoldable pub crossing : ShadowTest → ShadowTest → (Spot → Spot → List ℤ) → Corner → Corner → Corner → Corner → Corner → Option Cross
crossing ends edges place a b u v w =
    let pairs = edge_pairs ends edges a b u v w in crossed (edge_number ends edges a b u v w) (place (first_spot false pairs) (first_spot true pairs))

-- under a rule: the crossing of the two corners of p with the three of q
abbrev pub edge_face_crossing : Rule → Between → Settle → List Corner → List Corner → Option Cross
edge_face_crossing k w settle p q = crossing (vertex_face k w) (edge_edge k w) (p_point w settle) (corner_at p 0) (corner_at p 1) (corner_at q 0) (corner_at q 1) (corner_at q 2)

-- and of the three corners of p with the two of q
abbrev pub face_edge_crossing : Rule → Between → Settle → List Corner → List Corner → Option Cross
face_edge_crossing k w settle p q =
    crossing (mirror (face_vertex k w)) (mirror (edge_edge k w)) (q_point w settle) (corner_at q 0) (corner_at q 1) (corner_at p 0) (corner_at p 1) (corner_at p 2)
