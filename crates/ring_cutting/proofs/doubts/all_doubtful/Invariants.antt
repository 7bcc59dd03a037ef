use Rattle.std.proofs.Common.{ℕ, ◌≡◌, ◌<◌, true, length}
use Rattle.std.specs.Ordering.{nat_cmp}
use Rattle.std.specs.BTreeSet.{contains}
use Rattle.ring_cutting.proofs.doubts.all_doubtful.Given as goal

-- the places so far are in doubt
abbrev pub invariant-loop-i : goal.invariant-loop-i
invariant-loop-i l = record {
  many : length l.waiting.items ≡ l.i;
  all : (k : ℕ) → k < l.i → contains nat_cmp l.doubtful k ≡ true;
  only : (k : ℕ) → contains nat_cmp l.doubtful k ≡ true → k < l.i;
}
