-- What the code of this crate looks at: the points of the vertices in a plane, and a hole in hand among rings and later holes.
use Rattle.std.specs.Prelude.{ℕ, List, [], ◌∷◌, ◌++◌, get_or, drop, Bool, false, not, ◌&&◌, ◌||◌, ◌==◌}
use Rattle.face_plane.specs.Planes.{Plane, face_plane}
use Rattle.face_plane.specs.Rings.{vertex_at}
use Rattle.hole_joining.specs.declared.flat.FlatPoints.{FlatPoints}
use Rattle.hole_joining.specs.declared.flat.FlatVertex.{FlatVertex}
use Rattle.hole_joining.specs.declared.flat.BridgeLine.{BridgeLine}
use Rattle.hole_joining.specs.Cones.{segments_meet}
use Rattle.hole_joining.specs.declared.joining.Joining.{Joining}
use Rattle.hole_joining.specs.declared.bridge.Bridge.{Bridge}
use Rattle.hole_joining.specs.Bridges.{is_clear_bridge, edges_of, bridges_to, all_bridges}
use Rattle.hole_joining.specs.Obstacles.{AreBoxed, SameEdges, all_edges}
use Rattle.hole_joining.specs.Runs.{HaveRuns}

-- the plane of these points
abbrev pub plane_at : FlatPoints → Plane
plane_at f = face_plane f.plane.drop f.turned f.points.now

-- the same where u and v are not exchanged
abbrev pub straight_at : FlatPoints → Plane
straight_at f = face_plane f.plane.drop false f.points.now

-- a vertex with its point
abbrev pub flat_vertex : Plane → ℕ → FlatVertex
flat_vertex at v = record { vertex = v; at = at v }

-- the segment between two vertices
abbrev pub segment_of : Plane → ℕ → ℕ → BridgeLine
segment_of at a b = record { from = flat_vertex at a; to = flat_vertex at b }

-- the vertex is an end of the edge from c to d
abbrev pub is_end_of : FlatVertex → FlatVertex → FlatVertex → Bool
is_end_of v c d = (c.vertex == v.vertex) || (d.vertex == v.vertex)

-- the edge from c to d bars the segment
abbrev pub bars_segment : BridgeLine → FlatVertex → FlatVertex → Bool
bars_segment s c d = not (is_end_of s.from c d) && not (is_end_of s.to c d) && segments_meet s.from.at s.to.at c.at d.at

-- the start of the hole in hand
abbrev pub start_of : Joining → ℕ
start_of j = vertex_at j.hole.now 0

-- whether a bridge of it is clear
abbrev pub clear_of : Joining → Bridge → Bool
clear_of j b = is_clear_bridge (plane_at j.flat) j.rings.now j.hole.now j.later.now b

-- its bridges to one ring
abbrev pub bridges_in : Joining → ℕ → List Bridge
bridges_in j i = bridges_to (plane_at j.flat) (start_of j) i 0 (get_or j.rings.now i [])

-- its bridges to one ring from a place on
abbrev pub bridges_from : Joining → ℕ → ℕ → List Bridge
bridges_from j i k = bridges_to (plane_at j.flat) (start_of j) i k (drop k (get_or j.rings.now i []))

-- the edges that are asked
abbrev pub asked_edges : Joining → List (ℕ × ℕ)
asked_edges j = edges_of (j.rings.now ++ j.hole.now ∷ j.later.now)

-- all its bridges
abbrev pub bridges_of : Joining → List Bridge
bridges_of j = all_bridges (plane_at j.flat) (start_of j) 0 j.rings.now

-- its obstacles are those edges
pub record KnowsObstacles (j : Joining) : Type 0 where
  pub boxed : AreBoxed (plane_at j.flat) j.obstacles.now
  pub same : SameEdges (asked_edges j) (all_edges j.obstacles.now)

-- and each ring has runs
pub record IsReady (j : Joining) : Type 0 where
  pub obstacles : KnowsObstacles j
  pub runs : HaveRuns (plane_at j.flat) j.rings.now j.runs.now
