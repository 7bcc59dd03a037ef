-- The labels of the triples that stay.
use Rattle.std.proofs.Common.{◌≡◌, List, [], length, get_or, sym, ◌∙◌, ap}
use Rattle.std.proofs.lemmas.List.{length-map}
use Rattle.chain_terms.specs.Sums.{upto}
use Rattle.chain_laws.proofs.Places.{length-up_from}
use Rattle.mesh_terms.specs.Labels.{no_labels}
use Rattle.mesh_terms.specs.Meshes.{Triple}
use Rattle.mesh_check.specs.Reduced.{is_kept, kept_marks, kept_triples, picked}
use Rattle.mesh_check.proofs.KeptMarks.{kept_by_marks}
use Rattle.mesh_check.proofs.MarkedLabels.{picked-replicate}

-- as many marks as triples
pub length-kept_marks : (ts : List Triple) → length (kept_marks ts) ≡ length ts
length-kept_marks ts = length-map (upto (length ts)) (λ i. is_kept ts i (get_or ts i (0, 0, 0))) ∙ length-up_from 0 (length ts)

-- the labels of the kept triples, where there are none
pub kept_none : (ts : List Triple) → no_labels (kept_triples ts) ≡ picked (kept_marks ts) (no_labels ts)
kept_none ts = ap no_labels (kept_by_marks ts) ∙ sym (picked-replicate (kept_marks ts) ts [] (length-kept_marks ts))
