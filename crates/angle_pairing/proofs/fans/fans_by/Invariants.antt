use Rattle.std.proofs.Common.{◌≡◌, get_or, map, take}
use Rattle.sheet_terms.specs.Vertices.{leaders}
use Rattle.angle_pairing.proofs.fans.fans_by.Given as goal

abbrev pub invariant-loop-leader : goal.invariant-loop-leader
invariant-loop-leader l = record {
  items : l.leader-items ≡ leaders l.twins;
  of : l.of.items ≡ map (λ n. get_or l.numbers.items n 0) (take l.leader-index l.leader-items);
}
