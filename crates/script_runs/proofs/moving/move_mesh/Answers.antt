use Rattle.std.proofs.Common.{◌≡◌, ◌∙◌, ap, sym}
use Rattle.std.proofs.lemmas.Result.{err_from_is_err_and}
use Rattle.play_laws.proofs.Tasks.{meets_starved}
use Rattle.play_terms.specs.Plays.{mesh_at, move_task, with_name}
use Rattle.script_runs.specs.Names.{named_in}
use Rattle.script_runs.proofs.MadeMeshes.{moved_so, unmoved}
use Rattle.script_runs.proofs.moving.move_mesh.Goals as goal

pub returns-in-Err-clause-meets : goal.returns-in-Err-clause-meets
returns-in-Err-clause-meets c now =
    let named = named_in c.args.names.now in
    let is = sym c.mesh_of-mesh.ensures in
    rw c.halt_at.ensures.why
    (unmoved c.args.at.now.script.now c.args.at.now.line c.args.name.now c.args.source.now c.args.motion named
    c.mesh_of-mesh.result.now is _ c.in-Err.fault c.in-Err.ensures.refused now)

pub returns-in_err-define-clause-meets : goal.returns-in_err-define-clause-meets
returns-in_err-define-clause-meets c now =
    let e = err_from_is_err_and c.from_residual.result c.from_residual.ensures.1 in
    rw (e.1, e.2) (meets_starved (move_task c.args.at.now.script.now c.args.at.now.line c.args.name.now c.args.source.now c.args.motion (named_in c.args.names.now)) now)

pub returns-clause-meets : goal.returns-clause-meets
returns-clause-meets c now =
    let name = c.args.name.now in
    let named = named_in c.args.names.now in
    let mesh = c.mesh_of-mesh.result.now in
    let is = sym c.mesh_of-mesh.ensures in
    let after = c.in_ok-define.ensures.named ∙ ap (λ m. with_name name m named) c.in-Ok.ensures.mesh in
    moved_so c.args.at.now.script.now c.args.at.now.line name c.args.source.now c.args.motion named mesh is
    c.in-Ok.moved c.in-Ok.ensures.refused (named_in c.define.new.self) after now

pub returns-clause-named : goal.returns-clause-named
returns-clause-named c = (c.in-Ok.moved, c.in_ok-define.ensures.named)
