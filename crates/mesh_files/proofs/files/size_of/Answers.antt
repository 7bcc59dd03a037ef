use Rattle.std.proofs.Common.{◌∙◌, ap, inl, refl, sym}
use Rattle.std.proofs.lemmas.Result.{IfErr-weaker, IfOk-weaker}
use Rattle.run_terms.specs.Files.{size_in}
use Rattle.mesh_files.proofs.FilesEnded.{is_reading, size_refused, unread}
use Rattle.mesh_files.proofs.files.size_of.Goals as goal

pub returns-in_default-clause-meets : goal.returns-in_default-clause-meets
returns-in_default-clause-meets g c =
    let e = c.in_default.ensures in
    unread c.args.limits.now c.args.name.now _ _ e.told e.files e.writes (inl (record { later = e.reads.later; rose = e.reads.failed refl }, e.short))

pub returns-clause-meets : goal.returns-clause-meets
returns-clause-meets g c =
    let e = c.in-Ok.ensures in
    IfErr-weaker c.size_within.result _ _
    (λ stop. size_refused c.args.limits.now c.args.name.now _ _ c.file_bytes-most.result c.in-Ok.size stop c.file_bytes-most.ensures.value e.told e.files
    (e.reads.ok refl) e.short e.writes e.length)
    c.size_within.ensures.stop

pub returns-clause-stop : goal.returns-clause-stop
returns-clause-stop g c = IfErr-weaker c.size_within.result _ _ (is_reading c.file_bytes-most.result c.in-Ok.size) c.size_within.ensures.stop

pub returns-clause-size : goal.returns-clause-size
returns-clause-size g c =
    IfOk-weaker c.size_within.result _ _ (λ n is told. (sym (c.in-Ok.ensures.length told) ∙ is.0, rw (sym c.file_bytes-most.ensures.value) is.1)) c.size_within.ensures.size

pub returns-clause-stated : goal.returns-clause-stated
returns-clause-stated g c = IfOk-weaker c.size_within.result _ _ (λ n is untold. c.in-Ok.ensures.stated untold ∙ ap size_in is.0) c.size_within.ensures.size
