use Rattle.std.proofs.Common.{◌≡◌, length, sym, ◌∙◌}
use Rattle.std.proofs.lemmas.Result.{IfOk-weaker}
use Rattle.chain_terms.specs.Chains.{all_edges}
use Rattle.component_terms.specs.Counts.{component_count}
use Rattle.mesh_boolean.specs.Operation.{first_side, reduced_mesh}
use Rattle.winding.specs.Windings.{components_of}
use Rattle.operation_tests.proofs.Counted.{first_counted}
use Rattle.operation_tests.proofs.sums.first_components.Goals as goal

pub returns : goal.returns
returns c =
    let m = reduced_mesh c.args.p.now in
    IfOk-weaker c.reduced_components.result (λ n. n ≡ component_count (length m.points) (all_edges m.triples))
    (λ n. n ≡ components_of (first_side c.args.op c.args.p.now)) (λ n is. is ∙ sym (first_counted c.args.op c.args.p.now)) c.reduced_components.ensures
