use Rattle.std.proofs.Common.{◌≡◌, ◌<◌, ◌++◌, ℕ, length, map}
use Rattle.std.specs.List.{All}
use Rattle.plane_sheets.specs.Found.{IsWithin, of_label, shown, side_regions}
use Rattle.plane_sheets.specs.Seen.{seen_in}
use Rattle.plane_sheets.proofs.Ties.{StepsBy}
use Rattle.plane_sheets.proofs.regions.grouped.Given as goal

abbrev pub invariant-loop-first : goal.invariant-loop-first
invariant-loop-first l = record {
  steps : StepsBy (λ e. e.label) 0 l.rest;
  levels : (j : ℕ) → StepsBy (λ e. e.level) 0 (of_label j l.rest);
  places : All (λ e. All (λ v. v < length l.flat.points.now) e.ends) l.rest;
  inside : (n most : ℕ) → All (IsWithin n most) l.fn.edges → All (IsWithin n most) l.rest;
  made : (n most : ℕ) → All (IsWithin n most) l.fn.edges →
      map shown l.regions.items ++ side_regions (seen_in l.flat) most n l.rest ≡ side_regions (seen_in l.flat) most n l.fn.edges;
}

abbrev pub decreases-loop-first : goal.decreases-loop-first
decreases-loop-first l = length l.rest
