use Rattle.std.proofs.Common.{inl, inr, arith}
use Rattle.halfedge.proofs.Edges.{length-all_edges}
use Rattle.tidy_laws.proofs.Near.{was_collapsible}
use Rattle.tidy_laws.proofs.laws.nothing_else_opens.Goals as goal

pub returns : goal.returns
returns c = λ ts h a b c d can x u v low s from to across cd dc k.
    was_collapsible ts h a b c d can x u v (low, s) (record { low = omega (arith, low, length-all_edges ts); from = from; to = to })
    (λ e. across (inr (inl e))) (λ e. across (inr (inr (inr e)))) (λ e. across (inl e)) (λ e. across (inr (inr (inl e)))) (cd, dc) k
