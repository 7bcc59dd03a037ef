use Rattle.std.proofs.Common.{[], ◌∷◌, ◌++◌, ap, sym, ◌∙◌}
use Rattle.chain_laws.proofs.Places.{upto_more}
use Rattle.outlines.proofs.outline.numbers_to.Goals as goal

pub loop-number-preserved : goal.loop-number-preserved
loop-number-preserved c = c.in_ok-push.ensures.items ∙ ap (λ l. l ++ c.loop-number.number ∷ []) c.loop-number.invariant ∙ sym (upto_more c.loop-number.number)
