use Rattle.std.proofs.Common.{◌∙◌, Bool, IsTrue, ap, subst, sym}
use Rattle.std.proofs.lemmas.Result.{IfOk-weaker, err_from_is_err_and}
use Rattle.run_terms.specs.Files.{text_of}
use Rattle.mb_outside.specs.Seen.{OnShelf}
use Rattle.mesh_files.proofs.FilesEnded.{file_read}
use Rattle.mesh_files.proofs.FileTexts.{bytes_of_whole}
use Rattle.mesh_files.proofs.files.read_file.Goals as goal

pub returns-in_err-size-clause-meets : goal.returns-in_err-size-clause-meets
returns-in_err-size-clause-meets g c =
    let p = err_from_is_err_and c.from_residual.result c.from_residual.ensures.1 in
    rw (p.1, p.2) (c.in_err-size.ensures.meets)

pub returns-clause-meets : goal.returns-clause-meets
returns-clause-meets g c =
    let name = c.args.name.now in
    let sized = c.in_ok-size.ensures in
    let P : Bool → Type 0 = λ b. IsTrue b in
    let Told : OnShelf → Type 0 = λ on. IsTrue on.tells in
    file_read (λ bytes. bytes.items) c.args.limits.now name _ _ _ c.read_to.result sized.same c.read_to.ensures.same
    (IfOk-weaker c.read_to.result _ _
    (λ bytes is told.
    let size = sized.size told in
    bytes_of_whole c.args.limits.now name bytes.items _ c.in_ok-size.size size.0 size.1
    (ap (λ (on : OnShelf). text_of (on.files name)) (sym sized.same) ∙ is (subst Told (sym sized.same) told)))
    c.read_to.ensures.bytes)
    c.read_to.ensures.meets
