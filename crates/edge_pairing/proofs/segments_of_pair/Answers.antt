use Rattle.std.proofs.Common.{◌≡◌, map, subst, IfOk}
use Rattle.edge_pairing.specs.Entries.{edge_of}
use Rattle.edge_pairing.proofs.Across.{across}
use Rattle.edge_pairing.proofs.segments_of_pair.Goals as goal

pub returns-clause-value : goal.returns-clause-value
returns-clause-value c =
    subst (λ l. IfOk c.in_turn.result (λ s. map edge_of s.items ≡ l))
    (across c.args.entries.now c.args.points.now c.axis_direction.result c.widest_axis.result c.axis_direction.ensures.value c.widest_axis.ensures) c.in_turn.ensures.value
