use Rattle.std.proofs.Common.{subst}
use Rattle.mesh_tidy.specs.TidySurface.{TidySurface, IsKept}
use Rattle.mesh_tidy.proofs.surface.TidySurface.vertices.Goals as goal

pub returns-clause-surface : goal.returns-clause-surface
returns-clause-surface c =
    let kept = subst (λ (v : TidySurface). IsKept v c.self.inside.twins.items c.self.inside.stars) c.self.view_is c.self.invariant in
    record { marks = kept.marks; few = kept.few; below = kept.below; three = kept.three; closed = kept.closed }
