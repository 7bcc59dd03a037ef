use Rattle.std.proofs.Common.{◌≡◌, Bool, List, length, sym, ◌∙◌, ap, arith}
use Rattle.std.proofs.lemmas.List.{length-map}
use Rattle.std.proofs.lemmas.Result.{IfOk-weaker}
use Rattle.mesh_terms.specs.Meshes.{Triple, triple_of, triples_of}
use Rattle.mesh_check.specs.Reduced.{kept_triples, kept_marks, picked}
use Rattle.mesh_check.proofs.KeptLabels.{length-kept_marks}
use Rattle.mesh_check.proofs.KeptMarks.{kept_by_marks}
use Rattle.mesh_check.proofs.reduction.kept_triples.Goals as goal

-- the triples with marks are the kept ones
kept_is : (ts read kept : List Triple) (marks : List Bool) → marks ≡ kept_marks ts → read ≡ ts → kept ≡ picked marks read → kept ≡ kept_triples ts
kept_is ts read kept marks known same is = is ∙ (λ i. picked (known i) (same i)) ∙ sym (kept_by_marks ts)

pub marked-requires : goal.marked-requires
marked-requires c =
    let ts = c.args.mesh.now.triples in
    omega (arith, ap length c.requires, length-kept_marks ts, length-map c.triples.result.now triple_of, ap length c.triples.ensures.value)

pub returns : goal.returns
returns c =
    IfOk-weaker c.marked.result _ _
    (λ kept is. kept_is c.args.mesh.now.triples (triples_of c.triples.result.now) _ c.args.marks.now c.requires c.triples.ensures.value is) c.marked.ensures
