use Rattle.std.proofs.Common.{[], get_or, length, ◌^◌, ◌≡◌, ◌≤◌}
use Rattle.std.specs.List.{flat_map}
use Rattle.plane_chains.specs.Ways.{marked, ways_round}
use Rattle.plane_chains.proofs.chain.ways_along.Given as goal

abbrev pub invariant-loop-i : goal.invariant-loop-i
invariant-loop-i l = record {
  ways : l.ways.items ≡ flat_map (λ j. ways_round (get_or l.rims.0 j []) (get_or l.labels j 0)) (marked l.marks l.i);
  few : length l.ways.items ≤ 2 ^ 31;
}
