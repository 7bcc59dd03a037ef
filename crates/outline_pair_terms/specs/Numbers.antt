-- Winding numbers and crossings of two outlines.
use Rattle.std.specs.Prelude.{◌≡◌, ℕ, ℤ, pos, neg_ℤ, ◌+ℤ◌, ◌-ℤ◌, List, [], ◌∷◌, Option, None, Some, if◌then◌else◌, length, map}
use Rattle.std.specs.List.{filter_map, flat_map}
use Rattle.std.specs.Ordering.{int_eq}
use Rattle.chain_terms.specs.Ranks.{start, finish}
use Rattle.chain_terms.specs.Sums.{total, upto}
use Rattle.mb_base.specs.declared.op.Op.{Op}
use Rattle.mb_base.specs.declared.point.Corner.{Corner}
use Rattle.side_terms.specs.Corners.{corner_at}
use Rattle.side_terms.specs.Sides.{corners_of, edge_of}
use Rattle.shadow_kernels.specs.Counts.{count_of, shadow_of}
use Rattle.shadow_kernels.specs.declared.Meet.{Meet}
use Rattle.shadow_kernels.specs.declared.Spot.{Spot}
use Rattle.shadow_kernels.specs.ShadowLaws.{ShadowTest}
use Rattle.outline_pair_terms.specs.declared.FlatHit.{FlatHit}
use Rattle.outline_terms.specs.Outlines.{Outline, outline_edges, p_marks, q_marks}

-- the tests of a vertex and an edge, of an edge and a vertex, and of two edges
pub record FlatTests : Type 0 where
  pub vertex_edge : ShadowTest
  pub edge_vertex : ShadowTest
  pub edge_edge : ShadowTest

abbrev pub flat_tests : ShadowTest → ShadowTest → ShadowTest → FlatTests
flat_tests vertex_edge edge_vertex edge_edge = record { vertex_edge = vertex_edge; edge_vertex = edge_vertex; edge_edge = edge_edge }

-- corners and edges between them
pub record FlatSide : Type 0 where
  pub corners : List Corner
  pub edges : List (ℕ × ℕ)

-- the first outline with its marks, the second with none
abbrev pub p_flat : Op → Outline → FlatSide
p_flat op o = record { corners = corners_of o.points (p_marks op o); edges = outline_edges o }

abbrev pub q_flat : Outline → FlatSide
q_flat o = record { corners = corners_of o.points (q_marks o); edges = outline_edges o }

-- the corners of an edge
abbrev pub ends_of : FlatSide → (ℕ × ℕ) → List Corner
ends_of side e = edge_of side.corners e.0 e.1

-- the winding number of a corner of P in Q: the sum of its shadows over the edges
abbrev pub flat_winding : FlatTests → Corner → FlatSide → ℤ
flat_winding t p q = total (λ e. shadow_of (t.vertex_edge (p ∷ []) (ends_of q e))) q.edges

-- and of a corner of Q in P: minus the sum of the shadows of the edges
abbrev pub flat_winding_back : FlatTests → FlatSide → Corner → ℤ
flat_winding_back t p q = neg_ℤ (total (λ e. shadow_of (t.edge_vertex (ends_of p e) (q ∷ []))) p.edges)

-- how often two edges cross
abbrev pub flat_number : FlatTests → FlatSide → FlatSide → (ℕ × ℕ) → (ℕ × ℕ) → ℤ
flat_number t p q e f = count_of (t.edge_edge (ends_of p e) (ends_of q f))

-- at the spot's x and P's y, each settled, and z 0
abbrev pub flat_point : (ℤ → ℤ) → Spot → List ℤ
flat_point settle s = settle s.x ∷ settle s.py ∷ pos 0 ∷ []

-- the hit of two edges at places i and j, by the answer of their test: none where this has no meeting, or one that counts 0
abbrev pub flat_hit : (ℤ → ℤ) → ℕ → ℕ → Option Meet → Option FlatHit
flat_hit settle i j None = None
flat_hit settle i j (Some m) = if int_eq m.count (pos 0) then None else Some (record { p_edge = i; q_edge = j; number = m.count; at = flat_point settle m.spot })

-- the edge at a place
abbrev pub edge_at : FlatSide → ℕ → ℕ × ℕ
edge_at side k = (start side.edges k, finish side.edges k)

-- one for each pair with a number, ascending by P's edge, then Q's
abbrev pub flat_hits_along : ShadowTest → (ℤ → ℤ) → FlatSide → FlatSide → ℕ → List FlatHit
flat_hits_along test settle p q i = filter_map (λ j. flat_hit settle i j (test (ends_of p (edge_at p i)) (ends_of q (edge_at q j)))) (upto (length q.edges))

abbrev pub flat_hits : ShadowTest → (ℤ → ℤ) → FlatSide → FlatSide → List FlatHit
flat_hits test settle p q = flat_map (flat_hits_along test settle p q) (upto (length p.edges))

pub record FlatNumbers : Type 0 where
  pub w02 : List ℤ
  pub w20 : List ℤ
  pub hits : List FlatHit

abbrev pub flat_numbers : FlatTests → (ℤ → ℤ) → FlatSide → FlatSide → FlatNumbers
flat_numbers t settle p q =
    record { w02 = map (λ c. flat_winding t c q) p.corners; w20 = map (λ c. flat_winding_back t p c) q.corners; hits = flat_hits t.edge_edge settle p q }

-- what the tests keep: the count of two edges is the signed sum of the shadows of their boundary pairs
abbrev pub LiftEdges : FlatTests → List Corner → List Corner → Type 0
LiftEdges t ps qs = (a b c d : ℕ) → count_of (t.edge_edge (edge_of ps a b) (edge_of qs c d))
    ≡ shadow_of (t.vertex_edge (corner_at ps b ∷ []) (edge_of qs c d)) -ℤ shadow_of (t.vertex_edge (corner_at ps a ∷ []) (edge_of qs c d))
    +ℤ shadow_of (t.edge_vertex (edge_of ps a b) (corner_at qs d ∷ [])) -ℤ shadow_of (t.edge_vertex (edge_of ps a b) (corner_at qs c ∷ []))
