-- What decides which of two simplices is beyond the other: a rule.
use Rattle.std.specs.Prelude.{Bool, true, false}
use Rattle.mb_base.specs.declared.point.Corner.{Corner}
use Rattle.shadow_kernels.specs.declared.Edge.{Edge}
use Rattle.shadow_kernels.specs.declared.Edge.TheVariants.{OfP, OfQ}
use Rattle.shadow_kernels.specs.declared.Spot.{Spot}
use Rattle.shadow_kernels.specs.Spots.{Between, beyond, spot01, spot10, above_y, above_z}

-- whether the edge is Q's
abbrev pub of_q : Edge → Bool
of_q OfP = false
of_q OfQ = true

-- the spot of an edge and a vertex of the other side, where the left end of the edge is l
abbrev pub edge_spot : Edge → Between → Corner → Corner → Corner → Spot
edge_spot OfP w v l r = spot10 w l r v
edge_spot OfQ w v l r = spot01 w v l r

-- what is beyond what
pub record Rule : Type 0 where
  -- a vertex of P is beyond one of Q in x
  pub beyond_in_x : Corner → Corner → Bool
  -- P is beyond Q in y at the spot of a vertex and an edge of the other side, which goes from its left end to its right
  pub over_edge : Edge → Corner → Corner → Corner → Spot → Bool
  -- P is beyond Q in z at the spot of an edge of P and one of Q
  pub over_edges : Corner → Corner → Corner → Corner → Spot → Bool
  -- P is beyond Q in z at the spot of a vertex and a face of the other side, which is that of the edges named first
  pub over_face : Edge → Corner → Corner → Corner → Corner → Spot → Bool

-- on the grid the values at the spot decide, and P's marks where they are equal
abbrev pub grid : Rule
grid = record { beyond_in_x = beyond; over_edge = λ e v l r s. above_y s; over_edges = λ a b c d s. above_z s; over_face = λ e v a b c s. above_z s }

-- the spot of a vertex and an edge, and whether P is beyond Q there
abbrev pub spot_and_side : Rule → Between → Edge → Corner → Corner → Corner → Bool × Spot
spot_and_side k w e v l r = let s = edge_spot e w v l r in (k.over_edge e v l r s, s)
