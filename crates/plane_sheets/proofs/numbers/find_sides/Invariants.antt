use Rattle.std.proofs.Common.{map, take}
use Rattle.plane_chains.specs.EdgeBoxes.{pair_of}
use Rattle.plane_sheets.specs.Seen.{seen_in}
use Rattle.plane_sheets.specs.Sides.{HasSums, left_sum_of, lefts, rights, size_near}
use Rattle.plane_sheets.proofs.numbers.find_sides.Given as goal

abbrev pub invariant-loop-other : goal.invariant-loop-other
invariant-loop-other l = record {
  left : HasSums l.chain.nets.0 (left_sum_of (seen_in l.flat) (map pair_of l.chain.edges.items) l.chain.nets.0 l.edge (take l.other-index l.near))
      (size_near l.chain.nets.0 (take l.other-index l.near)) (lefts l.sides.items);
  right : HasSums l.chain.nets.0 (left_sum_of (seen_in l.flat) (map pair_of l.chain.edges.items) l.chain.nets.0 l.edge (take l.other-index l.near))
      (size_near l.chain.nets.0 (take l.other-index l.near)) (rights l.sides.items);
}
