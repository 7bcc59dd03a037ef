use Rattle.std.proofs.Common.{◌≡◌, take}
use Rattle.std.specs.List.{list_any}
use Rattle.loop_ring.specs.Turning.{turned_to}
use Rattle.plane_filling.specs.Cuttings.{is_other}
use Rattle.plane_filling.proofs.rings.has_other.Given as goal

-- what was found of the places so far, and the ring with its cursor at the next one
abbrev pub invariant-loop : goal.invariant-loop
invariant-loop l = record {
  ring : l.ring ≡ turned_to l.counter l.initial.ring;
  other : l.other ≡ list_any (is_other l.first l.second) (take l.counter l.initial.ring);
}
