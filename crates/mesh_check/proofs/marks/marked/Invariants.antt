use Rattle.std.proofs.Common.{◌≡◌, take}
use Rattle.mesh_check.specs.Reduced.{picked}
use Rattle.mesh_check.proofs.marks.marked.Given as goal

-- the triples so far
abbrev pub invariant-loop-place : goal.invariant-loop-place
invariant-loop-place l = l.kept.items ≡ picked (take l.place l.marks) (take l.place l.triples)
