use Rattle.std.proofs.Common.{◌+◌, ◌*◌, rules}
use Rattle.chain_terms.specs.Chains.{all_edges}
use Rattle.chain_laws.proofs.Places.{total-upto_more}
use Rattle.side_terms.specs.Conservation.{half_number}
use Rattle.operation_tests.proofs.faces.conserved.pair_number.Goals as goal

pub loop-i-preserved : goal.loop-i-preserved
loop-i-preserved c =
    let step = total-upto_more (λ i. half_number (all_edges c.args.side.now.triples) c.args.hits.now (3 * c.args.face + i) c.args.other) c.loop-i.i in
    search (rules, step)
