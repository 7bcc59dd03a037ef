use Rattle.std.proofs.Common.{◌≡◌, false, get_or, take}
use Rattle.std.specs.List.{All}
use Rattle.mesh_tidy.specs.Neighbours.{meets_another}
use Rattle.mesh_tidy.proofs.surface.TidySurface.meets_only.Given as goal

-- of the half-edges so far none meets another
abbrev pub invariant-loop-half : goal.invariant-loop-half
invariant-loop-half l = All (λ h. meets_another l.self l.met (get_or l.thirds 0 0) (get_or l.thirds 1 0) h ≡ false) (take l.half-index l.half-items)
