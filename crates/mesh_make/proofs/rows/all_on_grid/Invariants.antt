use Rattle.std.proofs.Common.{◌≡◌, drop, map}
use Rattle.made_terms.specs.Refusals.{all_on_grid}
use Rattle.mesh_make.proofs.rows.all_on_grid.Given as goal

abbrev pub invariant-loop-row : goal.invariant-loop-row
invariant-loop-row l = all_on_grid l.rows ≡ all_on_grid (map (λ p. p) (drop l.row-index l.rows))
