use Rattle.std.proofs.Common.{◌≡◌, take, map}
use Rattle.mb_base.specs.Labels.{label_of_two}
use Rattle.mb_base.proofs.labels.stored.StoredLabels.of_faces.Given as goal

-- the labels so far
abbrev pub invariant-loop-k : goal.invariant-loop-k
invariant-loop-k l = l.all ≡ map (label_of_two l.first l.second l.count) (take l.k l.faces)
