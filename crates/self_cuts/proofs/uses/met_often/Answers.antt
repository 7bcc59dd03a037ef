use Rattle.std.proofs.Common.{arith, ◌∙◌}
use Rattle.inspection_laws.proofs.Uses.{uses_own}
use Rattle.self_cuts.proofs.uses.met_often.Goals as goal

pub take_back-requires-clause-lows : goal.take_back-requires-clause-lows
take_back-requires-clause-lows c = λ k d h. omega (arith, c.requires.lows k d h, c.count_uses-count.ensures.uses.full)

pub take_back-requires-clause-uses : goal.take_back-requires-clause-uses
take_back-requires-clause-uses c = uses_own _ _ _ _ _ c.count_uses-count.ensures.uses

pub returns-clause-length : goal.returns-clause-length
returns-clause-length c = c.take_back.ensures.length ∙ c.count_uses-count.ensures.uses.full
