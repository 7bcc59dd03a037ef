use Rattle.std.proofs.Common.{◌≡◌, ◌+◌, ◌*◌, below_more, rules}
use Rattle.chain_terms.specs.Chains.{all_edges}
use Rattle.chain_terms.specs.Sums.{total, upto}
use Rattle.side_terms.specs.Conservation.{half_number}
use Rattle.operation_tests.proofs.faces.conserved.row_agrees.Goals as goal

pub loop-g-preserved : goal.loop-g-preserved
loop-g-preserved c =
    let one = half_number (all_edges c.args.p.now.triples) c.args.x12.now in
    let other = half_number (all_edges c.args.q.now.triples) c.args.x21.now in
    let f = c.args.f in
    let g = c.loop-g.g in
    let now : total (λ i. one (3 * f + i) g) (upto 3) ≡ total (λ i. other (3 * g + i) f) (upto 3) = search rules in
    below_more (λ k. total (λ i. one (3 * f + i) k) (upto 3) ≡ total (λ i. other (3 * k + i) f) (upto 3)) g c.loop-g.invariant now
