use Rattle.std.proofs.Common.{sym, ◌∙◌}
use Rattle.angle_pairing.proofs.changes.take.Goals as goal

pub change-requires-clause-change : goal.change-requires-clause-change
change-requires-clause-change c = c.requires.change c.in-Some.other (sym c.first_between.ensures ∙ c.in-Some.is)
