use Rattle.std.proofs.Common.{◌≡◌, length, take}
use Rattle.chain_terms.specs.Sums.{upto}
use Rattle.mesh_check.specs.Reduced.{picked}
use Rattle.mesh_check.proofs.marks.marked_places.Given as goal

-- the places so far
abbrev pub invariant-loop-place : goal.invariant-loop-place
invariant-loop-place l = l.places.items ≡ picked (take l.place l.marks) (take l.place (upto (length l.marks)))
