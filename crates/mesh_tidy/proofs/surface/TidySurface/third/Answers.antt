use Rattle.std.proofs.Common.{rules, ◌≡◌, subst, arith}
use Rattle.mesh_check.specs.Opposites.{third_vertex}
use Rattle.mesh_tidy.specs.TidySurface.{TidySurface, IsKept}
use Rattle.mesh_tidy.proofs.Known.{third_known}
use Rattle.mesh_tidy.proofs.surface.TidySurface.third.Goals as goal

pub returns-clause-below : goal.returns-clause-below
returns-clause-below c =
    let kept = subst (λ (v : TidySurface). IsKept v c.self.inside.twins.items c.self.inside.stars) c.self.view_is c.self.invariant in
    let value : c.start.result ≡ third_vertex c.args.self.now.triples c.args.half = search rules in
    omega (arith, value, third_known c.args.self.now c.self.inside.twins.items c.self.inside.stars kept c.args.half c.requires)
