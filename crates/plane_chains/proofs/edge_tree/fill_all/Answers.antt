use Rattle.std.proofs.Common.{[], ap, sym, ◌++◌, ◌∷◌, ◌∙◌}
use Rattle.chain_laws.proofs.Places.{upto_more}
use Rattle.plane_chains.proofs.edge_tree.fill_all.Goals as goal

pub loop-number-preserved : goal.loop-number-preserved
loop-number-preserved c =
    c.in_ok-push.ensures.items ∙ ap (λ xs. xs ++ c.loop-number.number ∷ []) c.loop-number.invariant ∙ sym (upto_more c.loop-number.number)
