use Rattle.std.proofs.Common.{◌≡◌, ◌<◌, length}
use Rattle.std.specs.List.{All, list_any}
use Rattle.hole_joining.specs.Seen.{plane_at}
use Rattle.hole_joining.specs.Cones.{bars}
use Rattle.hole_joining.proofs.Barring.{edge_bars}
use Rattle.hole_joining.proofs.obstacles.EdgeTree.bar.Given as goal

abbrev pub invariant-loop-number : goal.invariant-loop-number
invariant-loop-number l = record {
  below : All (λ k. k < length l.self.edges.items) l.number-iterator;
  value : list_any (edge_bars (plane_at l.flat) l.self.edges.items l.segment.from.vertex l.segment.to.vertex) l.number-iterator ≡
      list_any (bars (plane_at l.flat) l.segment.from.vertex l.segment.to.vertex) l.self.edges.items;
}
