use Rattle.std.proofs.Common.{◌≡◌, ◌≤◌, ◌+◌, ◌-◌, length, drop}
use Rattle.source_faces.specs.Entries.{list_count, list_end}
use Rattle.source_faces.proofs.lists.entries.list_end.Given as goal

abbrev pub invariant-loop-end : goal.invariant-loop-end
invariant-loop-end l = record {
  below : l.end ≤ length l.stands;
  value : l.end + list_count (drop l.end l.stands) l.list ≡ list_end l.stands l.begin l.list;
}

abbrev pub decreases-loop-end : goal.decreases-loop-end
decreases-loop-end l = length l.stands - l.end
