use Rattle.std.proofs.Common.{◌≡◌, take}
use Rattle.std.specs.List.{list_all}
use Rattle.chain_terms.specs.Paths.{round_edges}
use Rattle.loop_ring.specs.Turning.{turned_to}
use Rattle.plane_filling.specs.Cuttings.{differ}
use Rattle.plane_filling.proofs.rings.do_differ.Given as goal

-- what was found of the edges so far, and the ring with its cursor at the next place
abbrev pub invariant-loop : goal.invariant-loop
invariant-loop l = record {
  ring : l.ring ≡ turned_to l.counter l.initial.ring;
  apart : l.apart ≡ list_all differ (take l.counter (round_edges l.initial.ring));
}
