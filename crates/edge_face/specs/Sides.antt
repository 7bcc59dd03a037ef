-- The tests of an edge of either side with a face of the other, under a rule.
use Rattle.std.specs.Prelude.{ℤ, Option, List}
use Rattle.mb_base.specs.declared.point.Corner.{Corner}
use Rattle.side_terms.specs.Corners.{corner_at}
use Rattle.shadow_kernels.specs.declared.Edge.{Edge}
use Rattle.shadow_kernels.specs.declared.Edge.TheVariants.{OfP, OfQ}
use Rattle.shadow_kernels.specs.declared.Spot.{Spot}
use Rattle.shadow_kernels.specs.declared.Meet.{Meet}
use Rattle.shadow_kernels.specs.Spots.{Between}
use Rattle.shadow_kernels.specs.Shadows.{meet02, meet11, meet20}
use Rattle.shadow_kernels.specs.ShadowLaws.{ShadowTest}
use Rattle.shadow_kernels.specs.Edges.{own, other, edge_meet}
use Rattle.shadow_kernels.specs.Rules.{Rule}
use Rattle.shadow_kernels.specs.Lawful.{IsRule}
use Rattle.edge_face.specs.declared.Cross.{Cross}
use Rattle.edge_face.specs.Crossings.{Settle, edge_pairs, p_point, q_point, crossing}
use Rattle.edge_face.specs.Boundaries.{AreMet, rule_edge_face, rule_face_edge}

-- an edge of the other side
abbrev pub flip : Edge → Edge
flip OfP = OfQ
flip OfQ = OfP

-- the answer of a vertex of the edge's side and a face, and of the edge and an edge of the face
abbrev pub face_meet : Edge → Rule → Between → Corner → Corner → Corner → Corner → Option Meet
face_meet OfP k w v a b c = meet02 k w v a b c
face_meet OfQ k w v a b c = meet20 k w a b c v

abbrev pub edges_meet : Edge → Rule → Between → Corner → Corner → Corner → Corner → Option Meet
edges_meet OfP k w a b c d = meet11 k w a b c d
edges_meet OfQ k w a b c d = meet11 k w c d a b

-- the tests of the ends of the edge with the face, of the edge with edges of the face, and those below them
abbrev pub ends_on : Edge → Rule → Between → ShadowTest
ends_on e k w v f = face_meet e k w (corner_at v 0) (corner_at f 0) (corner_at f 1) (corner_at f 2)

abbrev pub edges_on : Edge → Rule → Between → ShadowTest
edges_on e k w s t = edges_meet e k w (corner_at s 0) (corner_at s 1) (corner_at t 0) (corner_at t 1)

abbrev pub one_on : Edge → Rule → Between → ShadowTest
one_on e k w v t = edge_meet (flip e) k w (corner_at v 0) (corner_at t 0) (corner_at t 1)

abbrev pub other_on : Edge → Rule → Between → ShadowTest
other_on e k w s v = edge_meet e k w (corner_at v 0) (corner_at s 0) (corner_at s 1)

-- they are counted and decided as is asked
pub met_on : (e : Edge) {k : Rule} {w : Between} → IsRule k w → AreMet (own e) (other e) (ends_on e k w) (edges_on e k w) (one_on e k w) (other_on e k w)
met_on OfP rule = rule_edge_face rule
met_on OfQ rule = rule_face_edge rule

-- the boundary pairs of the edge and the face, and their crossing
abbrev pub pairs_on : Edge → Rule → Between → List Corner → List Corner → List (Option Meet)
pairs_on e k w s f = edge_pairs (ends_on e k w) (edges_on e k w) (corner_at s 0) (corner_at s 1) (corner_at f 0) (corner_at f 1) (corner_at f 2)

abbrev pub place_on : Edge → Between → Settle → Spot → Spot → List ℤ
place_on OfP w settle = p_point w settle
place_on OfQ w settle = q_point w settle

abbrev pub crossing_on : Edge → Rule → Between → Settle → List Corner → List Corner → Option Cross
crossing_on e k w settle s f = crossing (ends_on e k w) (edges_on e k w) (place_on e w settle) (corner_at s 0) (corner_at s 1) (corner_at f 0) (corner_at f 1) (corner_at f 2)

-- a spot with the values of P and of Q exchanged
abbrev pub mirrored : Spot → Spot
mirrored s = record { x = s.x; py = s.qy; qy = s.py; pz = s.qz; qz = s.pz; up = s.up }
