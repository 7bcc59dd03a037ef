use Rattle.std.proofs.Common.{◌≡◌, take}
use Rattle.std.specs.Prelude.{count_by}
use Rattle.mesh_tidy.specs.Neighbours.{ends_at}
use Rattle.mesh_tidy.proofs.surface.TidySurface.edges_between.Given as goal

-- those of the star so far
abbrev pub invariant-loop-half : goal.invariant-loop-half
invariant-loop-half l = l.edges ≡ count_by (ends_at l.self l.to) (take l.half-index l.half-items)
