use Rattle.winding_laws.proofs.Listed.{all_solid, all_solid_back}
use Rattle.winding_laws.proofs.exact_windings.Goals as goal

pub returns-clause-w03 : goal.returns-clause-w03
returns-clause-w03 g c = all_solid _ c.args.p.now c.args.q.now c.twins.ensures.side c.twins-2.ensures.side (λ w. w.w03.items) c.windings.result c.windings.ensures.w03

pub returns-clause-w30 : goal.returns-clause-w30
returns-clause-w30 g c = all_solid_back _ c.args.q.now c.args.p.now c.twins-2.ensures.side c.twins.ensures.side (λ w. w.w30.items) c.windings.result c.windings.ensures.w30
