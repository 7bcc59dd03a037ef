use Rattle.std.proofs.Common.{◌≡◌, ◌++◌, replicate}
use Rattle.cross_section.proofs.copies.push_many.Given as goal

abbrev pub invariant-loop : goal.invariant-loop
invariant-loop l = record {
  points : l.copies.points.items ≡ l.fn.copies.points.items ++ replicate l.counter l.point;
  starts : l.copies.starts.items ≡ l.fn.copies.starts.items ++ replicate l.counter l.start;
  ends : l.copies.ends.items ≡ l.fn.copies.ends.items ++ replicate l.counter l.end;
}
