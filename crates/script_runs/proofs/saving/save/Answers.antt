use Rattle.std.proofs.Common.{◌≡◌, ◌∙◌, ap, sym}
use Rattle.std.proofs.lemmas.Result.{err_from_is_err_and}
use Rattle.mb_outside.specs.Seen.{on_output, on_shelf}
use Rattle.play_terms.specs.Plays.{mesh_at}
use Rattle.script_runs.specs.Names.{named_in}
use Rattle.script_runs.proofs.Stages.{save_told, save_unsaid, save_unwritten}
use Rattle.script_runs.proofs.saving.save.Goals as goal

pub returns-in_err-save_named_mesh-clause-meets : goal.returns-in_err-save_named_mesh-clause-meets
returns-in_err-save_named_mesh-clause-meets g c =
    let p = err_from_is_err_and c.from_residual.result c.from_residual.ensures.1 in
    let named = named_in c.args.names.now in
    let is = sym c.mesh_of-mesh.ensures in
    let out = on_output g.O.Sink c.args.out.now in
    rw (p.1, p.2)
    (save_unwritten c.args.digits c.args.name.now c.args.file.now (mesh_at named c.args.name.now) c.mesh_of-mesh.result.now
    named is (on_shelf g.S.Shelf c.args.shelf.now) (on_shelf g.S.Shelf c.save_named_mesh.new.shelf) out out _ c.in_err-save_named_mesh.ensures.meets)

pub returns-in_err-say_saved-clause-meets : goal.returns-in_err-say_saved-clause-meets
returns-in_err-say_saved-clause-meets g c =
    let p = err_from_is_err_and c.from_residual-in_err-say_saved.result c.from_residual-in_err-say_saved.ensures.1 in
    let named = named_in c.args.names.now in
    let is = sym c.mesh_of-mesh.ensures in
    rw (p.1, p.2)
    (save_unsaid c.args.digits c.args.name.now c.args.file.now (mesh_at named c.args.name.now)
    c.mesh_of-mesh.result.now named is (on_shelf g.S.Shelf c.args.shelf.now) (on_shelf g.S.Shelf c.save_named_mesh.new.shelf)
    (on_output g.O.Sink c.args.out.now) (on_output g.O.Sink c.say_saved.new.sink) _ c.in_ok-save_named_mesh.ensures.meets c.in_err-say_saved.ensures.meets)

pub returns-clause-meets : goal.returns-clause-meets
returns-clause-meets g c =
    let named = named_in c.args.names.now in
    let is = sym c.mesh_of-mesh.ensures in
    save_told c.args.digits c.args.name.now c.args.file.now (mesh_at named c.args.name.now)
    c.mesh_of-mesh.result.now named is (on_shelf g.S.Shelf c.args.shelf.now) (on_shelf g.S.Shelf c.save_named_mesh.new.shelf)
    (on_output g.O.Sink c.args.out.now) (on_output g.O.Sink c.say_saved.new.sink) c.in_ok-save_named_mesh.ensures.meets c.in_ok-say_saved.ensures.meets
