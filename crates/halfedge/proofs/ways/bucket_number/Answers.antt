use Rattle.std.proofs.Common.{◌%◌, sym, ap, ◌∙◌}
use Rattle.std.proofs.Math.Nat.{mod-eq_of_lt}
use Rattle.halfedge.proofs.ways.bucket_number.Goals as goal

pub returns-then-lesser-count : goal.returns-then-lesser-count
returns-then-lesser-count c = sym (mod-eq_of_lt c.if-lesser-count.true) ∙ ap (λ l. l % c.args.count) c.lesser_end-lesser.ensures

pub returns-else-lesser-count : goal.returns-else-lesser-count
returns-else-lesser-count c = ap (λ l. l % c.args.count) c.lesser_end-lesser.ensures
