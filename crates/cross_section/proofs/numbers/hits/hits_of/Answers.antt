use Rattle.std.proofs.Common.{◌++◌, ap, sym, ◌∙◌}
use Rattle.outline_pair_terms.specs.Numbers.{flat_hits_along}
use Rattle.cross_section.proofs.NearHits.{hits_more}
use Rattle.cross_section.proofs.numbers.hits.hits_of.Goals as goal

pub loop-edge-preserved : goal.loop-edge-preserved
loop-edge-preserved g c =
    let test = g.K.Meets.meet_of c.args.kernels.now in
    let settle = g.R.Rounding.settle_of c.args.rounding.now in
    let p = c.args.p.now in
    let q = c.args.q.now in
    let k = c.loop-edge.edge in
    c.in_ok-push_hits.ensures ∙ ap (λ l. l ++ flat_hits_along test settle p q k) c.loop-edge.invariant ∙ sym (hits_more test settle p q k)
