use Rattle.std.proofs.Common.{◌≡◌, ◌≤◌, ◌-◌, ◌++◌, length, map, drop}
use Rattle.std.specs.List.{All}
use Rattle.edge_pairing.specs.Entries.{edge_of}
use Rattle.source_faces.specs.Entries.{entry_of}
use Rattle.source_faces.specs.ListParts.{CanBePaired, groups, pairs_segments}
use Rattle.source_faces.proofs.lists.segments.push_pairs.Given as goal

abbrev pub invariant-loop-begin : goal.invariant-loop-begin
invariant-loop-begin l = record {
  below : l.begin ≤ length l.stands;
  value : map edge_of l.segments.items ++ pairs_segments l.points (drop l.begin l.stands) ≡
      map edge_of l.fn.segments.items ++ pairs_segments l.points l.stands;
  paired : All (λ g. CanBePaired l.points (map entry_of g)) (groups (drop l.begin l.stands));
}

abbrev pub decreases-loop-begin : goal.decreases-loop-begin
decreases-loop-begin l = length l.stands - l.begin
