use Rattle.std.proofs.Common.{length, below_more, rules}
use Rattle.chain_terms.specs.Chains.{all_edges}
use Rattle.side_terms.specs.Conservation.{half_number}
use Rattle.operation_tests.proofs.Conserved.{RowAgrees}
use Rattle.operation_tests.proofs.faces.conserved.pairs_agree.Goals as goal

pub loop-f-preserved : goal.loop-f-preserved
loop-f-preserved c =
    let one = half_number (all_edges c.args.p.now.triples) c.args.x12.now in
    let other = half_number (all_edges c.args.q.now.triples) c.args.x21.now in
    let n = length c.args.q.now.triples in
    let now : RowAgrees one other c.loop-f.f n = search rules in
    below_more (λ k. RowAgrees one other k n) c.loop-f.f c.loop-f.invariant now
