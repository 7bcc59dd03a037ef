use Rattle.std.proofs.Common.{subst}
use Rattle.mesh_terms.specs.Twins.{Twins, IsTwinned}
use Rattle.halfedge.proofs.Around.{pair_up, go_around}
use Rattle.halfedge.proofs.twins.Twins.twins.Goals as goal

pub returns-clause-pairs : goal.returns-clause-pairs
returns-clause-pairs c =
    let known : IsTwinned c.args.self.now.triples c.args.self.now.twins = subst (λ (v : Twins). IsTwinned v.triples v.twins) c.self.view_is c.self.invariant.twinned in
    pair_up c.args.self.now.triples known.three known.closed

pub returns-clause-around : goal.returns-clause-around
returns-clause-around c =
    let known : IsTwinned c.args.self.now.triples c.args.self.now.twins = subst (λ (v : Twins). IsTwinned v.triples v.twins) c.self.view_is c.self.invariant.twinned in
    go_around c.args.self.now.triples known.three known.closed
