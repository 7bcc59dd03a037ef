use Rattle.std.proofs.Common.{◌≡◌, take}
use Rattle.std.specs.Prelude.{bytes_eq}
use Rattle.sheet_terms.specs.Places.{firsts}
use Rattle.edge_cutting.proofs.Numbered.{numbers}
use Rattle.plane_groups.proofs.Labelled.{bytes_like, labels_at, nows}
use Rattle.plane_groups.proofs.labels.numbered.Given as goal

-- the labels so far are numbered
abbrev pub invariant-loop-source : goal.invariant-loop-source
invariant-loop-source l = record {
  keys : nows l.seen.keys ≡ firsts bytes_eq (labels_at l.labels (take l.source-index l.sources));
  of : l.numbers.items ≡ numbers bytes_eq bytes_like (labels_at l.labels (take l.source-index l.sources));
}
