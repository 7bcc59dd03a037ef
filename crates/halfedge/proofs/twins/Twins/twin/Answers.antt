use Rattle.std.proofs.Common.{length, get_or, sym, subst, ap, ◌∙◌, arith}
use Rattle.chain_terms.specs.Chains.{all_edges}
use Rattle.chain_terms.specs.Ranks.{RunsBack}
use Rattle.chain_laws.proofs.Twins.{twin_runs_back}
use Rattle.halfedge.proofs.Edges.{length-all_edges}
use Rattle.halfedge.proofs.Listed.{length-twins, twin_listed}
use Rattle.halfedge.proofs.twins.Twins.twin.Goals as goal

pub bounds-twins-h : goal.bounds-twins-h
bounds-twins-h c =
    let full = length-twins c.args.self.now.triples c.args.self.now.twins c.twins.ensures.twinned in
    omega (arith, c.requires, ap length c.twins.ensures.value, full)

pub returns-clause-listed : goal.returns-clause-listed
returns-clause-listed c = ap (λ l. get_or l c.args.h 0) c.twins.ensures.value

pub returns-clause-value : goal.returns-clause-value
returns-clause-value c = returns-clause-listed c ∙ twin_listed c.args.self.now.triples c.args.self.now.twins c.twins.ensures.twinned c.args.h 0 c.requires

pub returns-clause-back : goal.returns-clause-back
returns-clause-back c =
    let es = all_edges c.args.self.now.triples in
    subst (RunsBack es c.args.h) (sym (returns-clause-value c))
    (twin_runs_back es c.twins.ensures.twinned.closed c.args.h (omega (arith, c.requires, length-all_edges c.args.self.now.triples)))
