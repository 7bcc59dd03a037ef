use Rattle.mesh_tidy.proofs.Asking.{AreMarkedTo}
use Rattle.mesh_tidy.proofs.surface.TidySurface.mark_neighbours.Given as goal

abbrev pub invariant-loop-half : goal.invariant-loop-half
invariant-loop-half l = AreMarkedTo l.self l.half-items l.mark l.half-index l.initial.met l.met
