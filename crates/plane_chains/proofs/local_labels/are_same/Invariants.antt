use Rattle.std.proofs.Common.{◌≡◌, get_or, take}
use Rattle.std.specs.List.{All}
use Rattle.plane_chains.specs.Listed.{picked}
use Rattle.plane_chains.proofs.local_labels.are_same.Given as goal

abbrev pub invariant-loop-number : goal.invariant-loop-number
invariant-loop-number l = All (λ n. n ≡ get_or (picked l.labels l.numbers) 0 0) (picked l.labels (take l.number-index l.numbers))
