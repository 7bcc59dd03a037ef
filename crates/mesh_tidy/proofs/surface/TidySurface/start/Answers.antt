use Rattle.std.proofs.Common.{rules, ◌≡◌, subst, arith}
use Rattle.chain_terms.specs.Chains.{all_edges}
use Rattle.chain_terms.specs.Ranks.{start}
use Rattle.mesh_tidy.specs.TidySurface.{TidySurface, IsKept}
use Rattle.mesh_tidy.proofs.Known.{start_known}
use Rattle.mesh_tidy.proofs.surface.TidySurface.start.Goals as goal

pub returns-clause-below : goal.returns-clause-below
returns-clause-below c =
    let kept = subst (λ (v : TidySurface). IsKept v c.self.inside.twins.items c.self.inside.stars) c.self.view_is c.self.invariant in
    let value : c.start.result ≡ start (all_edges c.args.self.now.triples) c.args.half = search rules in
    omega (arith, value, start_known c.args.self.now c.self.inside.twins.items c.self.inside.stars kept c.args.half c.requires)
