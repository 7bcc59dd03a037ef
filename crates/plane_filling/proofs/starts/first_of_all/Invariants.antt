use Rattle.std.proofs.Common.{◌≡◌, drop}
use Rattle.hole_joining.specs.Holes.{first_of_all}
use Rattle.plane_filling.specs.Begun.{seen_in}
use Rattle.plane_filling.proofs.starts.first_of_all.Given as goal

-- the first of those so far and of those left is that of all
abbrev pub invariant-loop-place : goal.invariant-loop-place
invariant-loop-place l = first_of_all (seen_in l.flat) l.start (drop l.place-index l.rest) ≡ first_of_all (seen_in l.flat) l.first l.rest
