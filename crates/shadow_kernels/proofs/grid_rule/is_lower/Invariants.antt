use Rattle.std.proofs.Common.{◌<ℤ◌, take}
use Rattle.std.specs.List.{All}
use Rattle.side_terms.specs.Corners.{axis}
use Rattle.shadow_kernels.proofs.grid_rule.is_lower.Given as goal

abbrev pub invariant-loop-c : goal.invariant-loop-c
invariant-loop-c l = All (λ c. axis 2 l.low <ℤ axis 2 c) (take l.c-index l.corners)
