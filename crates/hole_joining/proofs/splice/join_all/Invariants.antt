use Rattle.std.proofs.Common.{◌≡◌, ◌+◌, ◌<◌, ◌^◌, ◌++◌, drop, length}
use Rattle.std.specs.List.{All}
use Rattle.hole_joining.specs.Seen.{plane_at}
use Rattle.hole_joining.specs.Bridges.{edges_of, joined}
use Rattle.hole_joining.specs.Obstacles.{AreBoxed, SameEdges, all_edges}
use Rattle.hole_joining.specs.Room.{added}
use Rattle.hole_joining.specs.Runs.{HaveRuns}
use Rattle.hole_joining.proofs.splice.join_all.Given as goal

-- the holes so far are joined to both forms of the rings, which have runs, there is room for the others, and the obstacles are the edges of all
abbrev pub invariant-loop-k : goal.invariant-loop-k
invariant-loop-k l = record {
  joins : joined (plane_at l.flat) l.rings.items (drop l.k l.holes) ≡ joined (plane_at l.flat) l.fn.rings.items l.holes;
  same : l.circles.items ≡ l.rings.items;
  few : All (λ r. length r + added (drop l.k l.holes) < 2 ^ 32) l.rings.items;
  one : 0 < length l.rings.items;
  long : All (λ r. 0 < length r) l.rings.items;
  runs : HaveRuns (plane_at l.flat) l.rings.items l.runs.items;
  boxed : AreBoxed (plane_at l.flat) l.obstacles;
  edges : SameEdges (edges_of (l.rings.items ++ drop l.k l.holes)) (all_edges l.obstacles);
}
