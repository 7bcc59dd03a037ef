use Rattle.std.proofs.Common.{◌≡◌, ℕ, [], get_or, length, map, take}
use Rattle.std.specs.List.{Contains}
use Rattle.plane_chains.specs.EdgeBoxes.{pair_of}
use Rattle.plane_sheets.specs.Boxed.{HasEdges}
use Rattle.plane_sheets.specs.Seen.{seen_in}
use Rattle.plane_sheets.specs.Sided.{AreListed, IsSided, seat_numbers, table_of}
use Rattle.plane_sheets.proofs.sided.sides_of.Given as goal

abbrev pub invariant-loop-seat : goal.invariant-loop-seat
invariant-loop-seat l = record {
  listed : AreListed l.sided;
  count : length (table_of l.sided) ≡ length l.chain.edges.items;
  edges : HasEdges (seen_in l.flat) (map pair_of l.chain.edges.items) l.passing;
  sides : (e : ℕ) → Contains (take l.seat-index (seat_numbers l.seat-items)) e →
      IsSided (seen_in l.flat) (map pair_of l.chain.edges.items) l.chain.nets.0 e (get_or (table_of l.sided) e []);
}
