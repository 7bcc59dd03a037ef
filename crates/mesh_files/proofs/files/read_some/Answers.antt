use Rattle.std.proofs.Common.{inl, refl}
use Rattle.mesh_files.proofs.FilesEnded.{unread}
use Rattle.mesh_files.proofs.files.read_some.Goals as goal

pub returns-in_default-clause-meets : goal.returns-in_default-clause-meets
returns-in_default-clause-meets g c limits =
    let e = c.in_default.ensures in
    unread limits c.args.name.now _ _ e.left.told e.left.files e.left.writes (inl (record { later = e.reads.later; rose = e.reads.failed refl }, e.unread))
