use Rattle.std.proofs.Common.{◌≡◌, drop}
use Rattle.std.specs.List.{list_any}
use Rattle.hole_joining.specs.Seen.{plane_at}
use Rattle.hole_joining.specs.Cones.{bars}
use Rattle.hole_joining.proofs.barred.any_bars.Given as goal

abbrev pub invariant-loop-edge : goal.invariant-loop-edge
invariant-loop-edge l =
    list_any (bars (plane_at l.flat) l.segment.from.vertex l.segment.to.vertex) (drop l.edge-index l.edges) ≡
    list_any (bars (plane_at l.flat) l.segment.from.vertex l.segment.to.vertex) l.edges
