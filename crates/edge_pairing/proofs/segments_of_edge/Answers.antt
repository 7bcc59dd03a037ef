use Rattle.std.proofs.Common.{◌≡◌, map, subst, IfOk}
use Rattle.edge_pairing.specs.Entries.{edge_of, starts_of, ends_of, place_in}
use Rattle.edge_pairing.specs.Keys.{key_along}
use Rattle.edge_pairing.specs.Pairing.{pair_up}
use Rattle.edge_pairing.proofs.segments_of_edge.Goals as goal

pub returns-clause-value : goal.returns-clause-value
returns-clause-value c =
    subst (λ d. IfOk c.in_turn.result (λ s. map edge_of s.items ≡ pair_up (key_along d (place_in c.args.points.now)) (starts_of c.args.entries.now) (ends_of c.args.entries.now)))
    c.direction.ensures.value c.in_turn.ensures.value
