use Rattle.std.proofs.lemmas.Result.{err_from_is_err_and}
use Rattle.mesh_files.proofs.Ended.{mesh_read, mesh_unread}
use Rattle.mesh_files.proofs.reading.read_mesh.Goals as goal

pub returns-in_err-bytes-clause-meets : goal.returns-in_err-bytes-clause-meets
returns-in_err-bytes-clause-meets g c =
    let p = err_from_is_err_and c.from_residual.result c.from_residual.ensures.1 in
    rw (p.1, p.2) (mesh_unread c.args.digits c.args.limits.now c.args.name.now _ _ _ c.in_err-bytes.ensures.meets)

pub returns-clause-meets : goal.returns-clause-meets
returns-clause-meets g c =
    mesh_read c.args.digits c.args.limits.now c.args.name.now _ _ _ c.mesh_of_text.result c.in_ok-bytes.ensures.meets
    c.mesh_of_text.ensures.meets
