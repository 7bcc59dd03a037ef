use Rattle.std.proofs.Common.{ℕ, [], ◌∷◌, Result, ap}
use Rattle.std.proofs.lemmas.Result.{err_from_is_err_and}
use Rattle.text_terms.specs.FirstFault.{each_read, put_read}
use Rattle.format_terms.specs.ObjFaces.{item_vertex}
use Rattle.obj_text.proofs.items.three_vertices.Goals as goal

pub returns-in_err-vertex-clause-fault : goal.returns-in_err-vertex-clause-fault
returns-in_err-vertex-clause-fault c =
    let later = each_read (item_vertex c.args.count) (c.args.second.now ∷ c.args.third.now ∷ []) in
    let p = err_from_is_err_and c.from_residual.result c.from_residual.ensures.1 in
    rw (p.1, p.2) (ap (λ (r : Result ℕ ℕ). put_read r later) c.in_err-vertex.ensures.fault)
