use Rattle.std.proofs.Common.{ℕ, ◌≡◌, ◌<◌, ◌-◌, true, false, length}
use Rattle.ring_cutting.specs.Left.{lives, may_go_at}
use Rattle.ring_cutting.proofs.long.first_allowed.Given as goal

-- none of the places before may be cut
abbrev pub invariant-loop-i : goal.invariant-loop-i
invariant-loop-i l = record {
  living : lives l.links.living.items l.i ≡ true;
  none : (m : ℕ) → lives l.links.living.items m ≡ true → m < l.i →
      may_go_at l.places l.links.after.items l.links.before.items l.links.living.items m ≡ false;
}

abbrev pub decreases-loop-i : goal.decreases-loop-i
decreases-loop-i l = length l.places - l.i
