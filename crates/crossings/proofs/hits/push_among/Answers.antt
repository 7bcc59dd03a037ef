use Rattle.std.proofs.Common.{◌++◌, arith, ap, sym, ◌∙◌}
use Rattle.std.proofs.lemmas.Bool.{ltb-true, ltb-false}
use Rattle.chain_terms.specs.Chains.{all_edges}
use Rattle.chain_terms.specs.Ranks.{twin}
use Rattle.crossings.specs.Hits.{hits_before}
use Rattle.crossings.specs.Near.{hits_with}
use Rattle.crossings.proofs.Rows.{hits_lower, hits_upper}
use Rattle.crossings.proofs.hits.push_among.Goals as goal
use Rattle.crossings.proofs.hits.push_among.Goals.{then-is_lower+in_ok-push_hits_among, else-is_lower}

pub loop-half-preserved : goal.loop-half-preserved
loop-half-preserved g c =
    let test = g.C.EdgeFace.crossing_of c.args.pairs.now in
    let edges = c.args.edges.now in
    let faces = c.args.faces.now in
    let near = c.args.near.now.faces.items in
    let h = c.loop-half.half in
    let other = twin (all_edges edges.triples) h in
    elim c.if-is_lower.branch [
      | then-is_lower+in_ok-push_hits_among w ↦
          ap (λ v. v.items) w.hits-is ∙ w.in_ok-push_hits_among.ensures ∙ ap (λ l. l ++ hits_with test edges faces h near) c.loop-half.invariant
          ∙ ap (λ l. hits_before test edges faces h ++ l) (c.requires.all h (omega arith) (omega arith))
          ∙ sym (hits_lower test edges faces h (ltb-true h other (sym c.is_lower.ensures ∙ w.if-is_lower.true)))
      | else-is_lower w ↦
          ap (λ v. v.items) w.hits-is ∙ c.loop-half.invariant ∙ sym (hits_upper test edges faces h (ltb-false h other (sym c.is_lower.ensures ∙ w.if-is_lower.false)))
    ]
