-- Exact shadow tests: P counts as moved by a hair in x, by a lesser one in y and by a still lesser one in z, and no value is rounded for a decision.
use Rattle.std.specs.Prelude.{ℤ, ◌+ℤ◌, ◌-ℤ◌, ◌*ℤ◌, Bool, int_le}
use Rattle.mb_base.specs.declared.point.Corner.{Corner}
use Rattle.side_terms.specs.Corners.{axis}
use Rattle.shadow_kernels.specs.declared.Edge.{Edge}
use Rattle.shadow_kernels.specs.declared.Edge.TheVariants.{OfP, OfQ}
use Rattle.shadow_kernels.specs.Rules.{Rule}
use Rattle.plane_laws.specs.Decisions.{is_over, Vector, edges_above, vertex_above, face_above}

-- a vertex of P is beyond one of Q in x
abbrev pub exact_beyond : Corner → Corner → Bool
exact_beyond p q = int_le (axis 0 q) (axis 0 p)

-- how far P is above Q in y where a vertex and an edge from l to r meet in x, times the length of the edge in x
abbrev pub height : Edge → Corner → Corner → Corner → ℤ
height OfQ p l r = (axis 1 p -ℤ axis 1 l) *ℤ (axis 0 r -ℤ axis 0 l) -ℤ (axis 0 p -ℤ axis 0 l) *ℤ (axis 1 r -ℤ axis 1 l)
height OfP q l r = (axis 1 l -ℤ axis 1 q) *ℤ (axis 0 r -ℤ axis 0 l) +ℤ (axis 0 q -ℤ axis 0 l) *ℤ (axis 1 r -ℤ axis 1 l)

-- P is above Q in y: the height is above 0, or it is 0 and the edge doesn't rise
abbrev pub exact_edge : Edge → Corner → Corner → Corner → Bool
exact_edge e v l r = is_over (height e v l r) (axis 1 l) (axis 1 r)

-- where a corner lies
abbrev pub position : Corner → Vector
position c = record { x = axis 0 c; y = axis 1 c; z = axis 2 c }

-- P is above Q in z: two edges
unfoldable pub exact_edges : Corner → Corner → Corner → Corner → Bool
exact_edges a b c d = edges_above (position a) (position b) (position c) (position d)

-- a vertex and a face of the other side
unfoldable pub exact_face : Edge → Corner → Corner → Corner → Corner → Bool
exact_face OfP q u v t = face_above (position u) (position v) (position t) (position q)
exact_face OfQ p u v t = vertex_above (position p) (position u) (position v) (position t)

-- no spot and no mark decides anything
abbrev pub exact : Rule
exact = record {
  beyond_in_x = exact_beyond;
  over_edge = λ e v l r s. exact_edge e v l r;
  over_edges = λ a b c d s. exact_edges a b c d;
  over_face = λ e v a b c s. exact_face e v a b c;
}
