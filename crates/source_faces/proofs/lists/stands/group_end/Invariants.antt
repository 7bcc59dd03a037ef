use Rattle.std.proofs.Common.{◌≡◌, ◌≤◌, ◌+◌, ◌-◌, length, drop}
use Rattle.source_faces.specs.Stands.{face_count, group_end}
use Rattle.source_faces.proofs.lists.stands.group_end.Given as goal

abbrev pub invariant-loop-end : goal.invariant-loop-end
invariant-loop-end l = record {
  below : l.end ≤ length l.stands;
  value : l.end + face_count (drop l.end l.stands) l.face ≡ group_end l.stands l.begin l.face;
}

abbrev pub decreases-loop-end : goal.decreases-loop-end
decreases-loop-end l = length l.stands - l.end
