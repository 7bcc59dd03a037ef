use Rattle.std.proofs.Common.{◌≡◌, ◌<◌, ℕ, map, take}
use Rattle.std.specs.List.{All}
use Rattle.plane_chains.specs.EdgeBoxes.{pair_of}
use Rattle.plane_sheets.specs.Leaving.{leaving_from}
use Rattle.plane_sheets.proofs.leaving.numbered.Given as goal

abbrev pub invariant-loop-number : goal.invariant-loop-number
invariant-loop-number l = record {
  value : l.all.items ≡ leaving_from 0 (map pair_of (take l.number l.edges));
  ends : (n : ℕ) → All (λ e. All (λ v. v < n) e) l.edges → All (λ e. e.to < n) l.all.items;
}
