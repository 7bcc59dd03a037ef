use Rattle.std.proofs.Common.{◌≡◌, ◌++◌, replicate}
use Rattle.retained_verts.proofs.copies.Copies.push.Given as goal

abbrev pub invariant-loop : goal.invariant-loop
invariant-loop l = record {
  origins : l.self.origins.items ≡ l.fn.self.origins.items ++ replicate l.counter l.origin;
  points : l.self.points.items ≡ l.fn.self.points.items ++ replicate l.counter l.point;
}
