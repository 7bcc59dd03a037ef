-- The answers of the six dimension pairs under a rule, by their corners and by lists of corners.
use Rattle.std.specs.Prelude.{pos, Option, Some, List, [], ◌∷◌}
use Rattle.mb_base.specs.declared.point.Corner.{Corner}
use Rattle.side_terms.specs.Corners.{corner_at}
use Rattle.shadow_kernels.specs.declared.Edge.TheVariants.{OfP, OfQ}
use Rattle.shadow_kernels.specs.declared.Meet.{Meet}
use Rattle.shadow_kernels.specs.Spots.{Between, spot00}
use Rattle.shadow_kernels.specs.Rules.{Rule, spot_and_side}
use Rattle.shadow_kernels.specs.Counts.{turned, by_ends, lifted}
use Rattle.shadow_kernels.specs.ShadowLaws.{ShadowTest}

-- the answer of two vertices
abbrev pub meet00 : Rule → Corner → Corner → Option Meet
meet00 k p q = Some (record { count = pos 1; above = k.beyond_in_x p q; spot = spot00 p q })

-- a vertex and an edge from c to d: the left end is the one that p is beyond, since its x is the smaller
unfoldable pub meet01 : Rule → Between → Corner → Corner → Corner → Option Meet
meet01 k w p c d = by_ends (k.beyond_in_x p c) (k.beyond_in_x p d) (spot_and_side k w OfQ p c d) (spot_and_side k w OfQ p d c)

-- an edge from a to b and a vertex: the left end is the one that is not beyond q, since its x is the smaller, or the x are equal and it is not up
unfoldable pub meet10 : Rule → Between → Corner → Corner → Corner → Option Meet
meet10 k w a b q = by_ends (k.beyond_in_x b q) (k.beyond_in_x a q) (spot_and_side k w OfP q a b) (spot_and_side k w OfP q b a)

-- the boundary pairs of the edges from a to b and from c to d
abbrev pub boundary11 : Rule → Between → Corner → Corner → Corner → Corner → List (Option Meet)
boundary11 k w a b c d = meet01 k w b c d ∷ turned (meet01 k w a c d) ∷ meet10 k w a b d ∷ turned (meet10 k w a b c) ∷ []

-- the boundary pairs of a vertex and a face
abbrev pub boundary02 : Rule → Between → Corner → Corner → Corner → Corner → List (Option Meet)
boundary02 k w p u v t = meet01 k w p u v ∷ meet01 k w p v t ∷ meet01 k w p t u ∷ []

-- the boundary pairs of a face and a vertex
abbrev pub boundary20 : Rule → Between → Corner → Corner → Corner → Corner → List (Option Meet)
boundary20 k w u v t q = meet10 k w u v q ∷ meet10 k w v t q ∷ meet10 k w t u q ∷ []

-- the answer of two edges, from their ends with the other edge
unfoldable pub meet11 : Rule → Between → Corner → Corner → Corner → Corner → Option Meet
meet11 k w a b c d = lifted w (k.over_edges a b c d) (boundary11 k w a b c d)

-- the answer of a vertex and a face, from the three edges
unfoldable pub meet02 : Rule → Between → Corner → Corner → Corner → Corner → Option Meet
meet02 k w p u v t = lifted w (k.over_face OfQ p u v t) (boundary02 k w p u v t)

-- the answer of a face and a vertex, from the three edges
unfoldable pub meet20 : Rule → Between → Corner → Corner → Corner → Corner → Option Meet
meet20 k w u v t q = lifted w (k.over_face OfP q u v t) (boundary20 k w u v t q)

-- the six by lists: a vertex is one corner, an edge two, a face three
abbrev pub vertex_vertex : Rule → ShadowTest
vertex_vertex k p q = meet00 k (corner_at p 0) (corner_at q 0)

abbrev pub vertex_edge : Rule → Between → ShadowTest
vertex_edge k w p q = meet01 k w (corner_at p 0) (corner_at q 0) (corner_at q 1)

abbrev pub edge_vertex : Rule → Between → ShadowTest
edge_vertex k w p q = meet10 k w (corner_at p 0) (corner_at p 1) (corner_at q 0)

abbrev pub edge_edge : Rule → Between → ShadowTest
edge_edge k w p q = meet11 k w (corner_at p 0) (corner_at p 1) (corner_at q 0) (corner_at q 1)

abbrev pub vertex_face : Rule → Between → ShadowTest
vertex_face k w p q = meet02 k w (corner_at p 0) (corner_at q 0) (corner_at q 1) (corner_at q 2)

abbrev pub face_vertex : Rule → Between → ShadowTest
face_vertex k w p q = meet20 k w (corner_at p 0) (corner_at p 1) (corner_at p 2) (corner_at q 0)
