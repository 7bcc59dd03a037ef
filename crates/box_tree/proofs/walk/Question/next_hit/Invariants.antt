use Rattle.std.specs.Prelude.{◌≡◌, ◌≤◌, slice_range}
use Rattle.box_tree.specs.Walks.{hits}
use Rattle.box_tree.proofs.walk.Question.next_hit.Given as goal

abbrev pub invariant-loop-place : goal.invariant-loop-place
invariant-loop-place l = record {
  from : l.at ≤ l.place;
  to : l.place ≤ l.end;
  same : hits l.self (slice_range l.self.entries.now l.at l.end) ≡ hits l.self (slice_range l.self.entries.now l.place l.end);
}
