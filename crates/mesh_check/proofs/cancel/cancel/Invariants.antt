use Rattle.std.proofs.Common.{◌≡◌, ◌+◌, ◌-◌, ℕ, List, length}
use Rattle.halfedge.specs.Ways.{AreWays}
use Rattle.mesh_check.specs.Cancelling.{halves_of, AreMarked}
use Rattle.mesh_check.proofs.Cancelling.{IsRead}
use Rattle.mesh_check.proofs.cancel.cancel.Given as goal

-- the lists are read to i and j
abbrev pub invariant-loop-i : goal.invariant-loop-i
invariant-loop-i l = record {
  full : length l.left.items ≡ length l.initial.left.items;
  read : (es : List (ℕ × ℕ)) (key : ℕ → ℕ) (k : ℕ) → AreWays es key k (halves_of l.ones) (halves_of l.others) → AreMarked es key k l.initial.left.items →
      IsRead es key k (halves_of l.ones) (halves_of l.others) l.i l.j l.initial.left.items l.left.items;
}

abbrev pub decreases-loop-i : goal.decreases-loop-i
decreases-loop-i l = (length l.ones - l.i) + (length l.others - l.j)
