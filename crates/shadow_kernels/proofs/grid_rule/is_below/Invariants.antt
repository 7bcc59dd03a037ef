use Rattle.std.proofs.Common.{◌<ℤ◌, take}
use Rattle.std.specs.List.{All}
use Rattle.side_terms.specs.Corners.{axis}
use Rattle.shadow_kernels.proofs.grid_rule.is_below.Given as goal

abbrev pub invariant-loop-p : goal.invariant-loop-p
invariant-loop-p l = All (λ a. All (λ b. axis 2 a <ℤ axis 2 b) l.qs) (take l.p-index l.ps)
