use Rattle.std.proofs.Common.{ℕ, ◌≡◌, true, take}
use Rattle.std.specs.Ordering.{nat_cmp}
use Rattle.std.specs.BTreeSet.{contains}
use Rattle.face_plane.specs.Rings.{In}
use Rattle.ring_cutting.specs.Left.{lives}
use Rattle.ring_cutting.proofs.doubts.wake.Given as goal

-- those of the places so far that are left are in doubt
abbrev pub invariant-loop-k : goal.invariant-loop-k
invariant-loop-k l = record {
  woken : (q : ℕ) → In q (take l.k l.places) → lives l.living q ≡ true → contains nat_cmp l.doubtful q ≡ true;
  kept : (q : ℕ) → contains nat_cmp l.initial.doubtful q ≡ true → contains nat_cmp l.doubtful q ≡ true;
  known : ((q : ℕ) → contains nat_cmp l.initial.doubtful q ≡ true → lives l.living q ≡ true) → (q : ℕ) →
      contains nat_cmp l.doubtful q ≡ true → lives l.living q ≡ true;
}
