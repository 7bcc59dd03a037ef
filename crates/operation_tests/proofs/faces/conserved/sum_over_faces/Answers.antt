use Rattle.std.proofs.Common.{rules}
use Rattle.chain_terms.specs.Chains.{all_edges}
use Rattle.chain_laws.proofs.Places.{total-upto_more}
use Rattle.side_terms.specs.Conservation.{half_number}
use Rattle.operation_tests.proofs.faces.conserved.sum_over_faces.Goals as goal

pub loop-face-preserved : goal.loop-face-preserved
loop-face-preserved c =
    let step = total-upto_more (half_number (all_edges c.args.side.now.triples) c.args.hits.now c.args.half) c.loop-face.face in
    search (rules, step)
