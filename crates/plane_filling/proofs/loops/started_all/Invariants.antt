use Rattle.std.proofs.Common.{◌≡◌, ◌-◌, drop, take}
use Rattle.plane_filling.specs.Begun.{begun_without, seen_in}
use Rattle.plane_filling.specs.Ways.{is_passed}
use Rattle.plane_filling.proofs.loops.started_all.Given as goal

-- the walks so far are begun
abbrev pub invariant-loop-walk : goal.invariant-loop-walk
invariant-loop-walk l = l.loops.items ≡
    begun_without (is_passed l.flat.points.now l.ways) (seen_in l.flat) (take (l.walk - l.start) (drop l.start l.walks.0))
