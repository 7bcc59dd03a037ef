use Rattle.std.proofs.lemmas.Result.{err_from_is_err_and}
use Rattle.mb_outside.specs.Seen.{on_output, on_shelf}
use Rattle.mesh_files.specs.Reads.{soup_with}
use Rattle.script_runs.specs.Names.{named_in}
use Rattle.script_runs.proofs.Stages.{load_named, load_unnamed, load_unread, load_unsaid}
use Rattle.script_runs.proofs.loading.load.Goals as goal

pub returns-in_err-read-clause-meets : goal.returns-in_err-read-clause-meets
returns-in_err-read-clause-meets g c =
    let p = err_from_is_err_and c.from_residual.result c.from_residual.ensures.1 in
    let out = on_output g.O.Sink c.args.out.now in
    rw (p.1, p.2)
    (load_unread c.args.at.now.digits c.args.at.now.limits.now c.args.name.now c.args.file.now (named_in c.args.names.now) (on_shelf g.S.Shelf c.args.shelf.now)
    (on_shelf g.S.Shelf c.read_named_mesh.new.shelf) out out _ c.in_err-read.ensures.meets)

pub returns-in_err-say_loaded-clause-meets : goal.returns-in_err-say_loaded-clause-meets
returns-in_err-say_loaded-clause-meets g c =
    let p = err_from_is_err_and c.from_residual-in_err-say_loaded.result c.from_residual-in_err-say_loaded.ensures.1 in
    rw (p.1, p.2)
    (load_unsaid c.args.at.now.digits c.args.at.now.limits.now c.args.name.now c.args.file.now (named_in c.args.names.now) (on_shelf g.S.Shelf c.args.shelf.now)
    (on_shelf g.S.Shelf c.read_named_mesh.new.shelf)
    (on_output g.O.Sink c.args.out.now) (on_output g.O.Sink c.say_loaded.new.sink) (soup_with c.in_ok-read.read) _ c.in_ok-read.ensures.meets c.in_err-say_loaded.ensures.meets)

pub returns-in_err-define-clause-meets : goal.returns-in_err-define-clause-meets
returns-in_err-define-clause-meets g c =
    let p = err_from_is_err_and c.from_residual-in_err-define.result c.from_residual-in_err-define.ensures.1 in
    rw (p.1, p.2)
    (load_unnamed c.args.at.now.digits c.args.at.now.limits.now c.args.name.now c.args.file.now (named_in c.args.names.now) (on_shelf g.S.Shelf c.args.shelf.now)
    (on_shelf g.S.Shelf c.read_named_mesh.new.shelf)
    (on_output g.O.Sink c.args.out.now) (on_output g.O.Sink c.say_loaded.new.sink) (soup_with c.in_ok-read.read) c.in_ok-read.ensures.meets c.in_ok-say_loaded.ensures.meets)

pub returns-clause-meets : goal.returns-clause-meets
returns-clause-meets g c =
    load_named c.args.at.now.digits c.args.at.now.limits.now c.args.name.now c.args.file.now (named_in c.args.names.now) (on_shelf g.S.Shelf c.args.shelf.now)
    (on_shelf g.S.Shelf c.read_named_mesh.new.shelf)
    (on_output g.O.Sink c.args.out.now) (on_output g.O.Sink c.say_loaded.new.sink) (soup_with c.in_ok-read.read) (named_in c.define.new.self) c.in_ok-define.ensures.named
    c.in_ok-read.ensures.meets c.in_ok-say_loaded.ensures.meets

pub returns-clause-named : goal.returns-clause-named
returns-clause-named g c = (c.in_ok-read.read.mesh, c.in_ok-define.ensures.named)
