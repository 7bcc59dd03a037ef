use Rattle.std.proofs.Common.{◌≡◌, map, take}
use Rattle.plane_sheets.proofs.regions.region_walks.Given as goal

abbrev pub invariant-loop-edge : goal.invariant-loop-edge
invariant-loop-edge l = l.ends.items ≡ map (λ e. e.ends) (take l.edge-index l.edges)
