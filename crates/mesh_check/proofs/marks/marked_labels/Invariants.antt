use Rattle.std.proofs.Common.{◌≡◌, take}
use Rattle.mesh_check.specs.Reduced.{picked}
use Rattle.mesh_check.proofs.marks.marked_labels.Given as goal

-- the labels so far
abbrev pub invariant-loop-place : goal.invariant-loop-place
invariant-loop-place l = l.kept ≡ picked (take l.place l.marks) (take l.place l.labels)
