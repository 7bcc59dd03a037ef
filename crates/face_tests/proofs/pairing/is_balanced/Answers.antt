use Rattle.std.proofs.Common.{sym, ◌∙◌}
use Rattle.std.proofs.lemmas.Bool.{eqb-true}
use Rattle.edge_pairing.proofs.Listed.{balanced_from_count}
use Rattle.face_tests.proofs.pairing.is_balanced.Goals as goal

pub returns : goal.returns
returns c =
    λ same. balanced_from_count c.args.entries.now c.start_count-starts.result c.start_count-starts.ensures
    (sym c.saturating_sub.ensures ∙ eqb-true c.saturating_sub.result c.start_count-starts.result same)
