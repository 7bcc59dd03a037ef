use Rattle.std.proofs.Common.{◌≡◌, ◌≤◌, ◌-◌, [], length, map}
use Rattle.mesh_tidy.specs.Stars.{stars_of}
use Rattle.mesh_tidy.proofs.stars.Stars.empty.Given as goal

abbrev pub invariant-loop-alloc : goal.invariant-loop-alloc
invariant-loop-alloc l = record {
  few : length l.lists.items ≤ l.vertices;
  empty : map (λ v. v.items) l.lists.items ≡ stars_of (length l.lists.items) [];
}

abbrev pub decreases-loop-alloc : goal.decreases-loop-alloc
decreases-loop-alloc l = l.vertices - length l.lists.items
