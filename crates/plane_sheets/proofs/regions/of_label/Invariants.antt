use Rattle.std.proofs.Common.{◌≡◌, ◌+◌, drop}
use Rattle.plane_sheets.specs.Found.{front_count}
use Rattle.plane_sheets.proofs.regions.of_label.Given as goal

abbrev pub invariant-loop-i : goal.invariant-loop-i
invariant-loop-i l = l.i + front_count (λ e. e.label) l.label (drop l.i l.edges) ≡ front_count (λ e. e.label) l.label l.edges
