use Rattle.std.proofs.Common.{ℕ, ◌<◌, ◌≡◌, ◌+◌, ◌-◌, ◌==◌, true, cond, length}
use Rattle.ring_cutting.specs.Left.{lives, after_of, before_of}
use Rattle.ring_cutting.proofs.links.linked.Given as goal

-- the links so far
abbrev pub invariant-loop-i : goal.invariant-loop-i
invariant-loop-i l = record {
  after_long : length l.after.items ≡ l.i;
  before_long : length l.before.items ≡ l.i;
  living_long : length l.living.items ≡ l.i;
  living : (k : ℕ) → k < l.i → lives l.living.items k ≡ true;
  after : (k : ℕ) → k < l.i → after_of l.after.items k ≡ cond (k + 1 == l.len) 0 (k + 1);
  before : (k : ℕ) → k < l.i → before_of l.before.items k ≡ cond (k == 0) (l.len - 1) (k - 1);
}
