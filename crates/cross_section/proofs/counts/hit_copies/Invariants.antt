use Rattle.std.proofs.Common.{◌≡◌, ◌≤◌, take}
use Rattle.std.specs.Prelude.{nat_abs}
use Rattle.std.specs.List.{sum_by}
use Rattle.cross_section.specs.Copies.{hit_number}
use Rattle.cross_section.proofs.counts.hit_copies.Given as goal

abbrev pub invariant-loop-hit : goal.invariant-loop-hit
invariant-loop-hit l = record { value : l.sum ≡ sum_by (λ h. nat_abs (hit_number l.op h.number)) (take l.hit-index l.hits); size : l.sum ≤ l.hit-index }
