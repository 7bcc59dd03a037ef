use Rattle.std.proofs.Common.{◌≡◌, ◌∙◌, ap, sym}
use Rattle.std.proofs.lemmas.Result.{err_from_is_err_and}
use Rattle.mb_outside.specs.Seen.{on_output}
use Rattle.play_laws.proofs.Tasks.{meets_starved}
use Rattle.play_terms.specs.Plays.{mesh_at, tidy_task, with_name}
use Rattle.script_runs.specs.Names.{named_in}
use Rattle.script_runs.proofs.Stages.{beside, tidy_named, tidy_unnamed, tidy_unsaid}
use Rattle.script_runs.proofs.tidying.tidy_mesh.Goals as goal

pub returns-in_err-tidied-clause-meets : goal.returns-in_err-tidied-clause-meets
returns-in_err-tidied-clause-meets g c on =
    let e = err_from_is_err_and c.from_residual.result c.from_residual.ensures.1 in
    let named = named_in c.args.names.now in
    rw (e.1, e.2) (meets_starved (tidy_task c.args.name.now c.args.source.now (mesh_at named c.args.source.now) named) (beside on (on_output g.O.Sink c.args.out.now)))

pub returns-in_err-say_tidied-clause-meets : goal.returns-in_err-say_tidied-clause-meets
returns-in_err-say_tidied-clause-meets g c =
    let e = err_from_is_err_and c.from_residual-in_err-say_tidied.result c.from_residual-in_err-say_tidied.ensures.1 in
    let named = named_in c.args.names.now in
    let source = c.args.source.now in
    let mesh = c.mesh_of-mesh.result.now in
    let is = sym c.mesh_of-mesh.ensures in
    rw (e.1, e.2)
    (tidy_unsaid c.args.name.now source (mesh_at named source) mesh named is c.in_ok-tidied.tidied.collapsed c.in_ok-tidied.ensures.collapsed
    (on_output g.O.Sink c.args.out.now) (on_output g.O.Sink c.say_tidied.new.sink) _ c.in_err-say_tidied.ensures.meets)

pub returns-in_err-define-clause-meets : goal.returns-in_err-define-clause-meets
returns-in_err-define-clause-meets g c =
    let e = err_from_is_err_and c.from_residual-in_err-define.result c.from_residual-in_err-define.ensures.1 in
    let named = named_in c.args.names.now in
    let source = c.args.source.now in
    let mesh = c.mesh_of-mesh.result.now in
    let is = sym c.mesh_of-mesh.ensures in
    rw (e.1, e.2)
    (tidy_unnamed c.args.name.now source (mesh_at named source) mesh named is c.in_ok-tidied.tidied.collapsed c.in_ok-tidied.ensures.collapsed
    (on_output g.O.Sink c.args.out.now) (on_output g.O.Sink c.say_tidied.new.sink) c.in_ok-say_tidied.ensures.meets)

pub returns-clause-meets : goal.returns-clause-meets
returns-clause-meets g c =
    let named = named_in c.args.names.now in
    let source = c.args.source.now in
    let mesh = c.mesh_of-mesh.result.now in
    let is = sym c.mesh_of-mesh.ensures in
    let after = c.in_ok-define.ensures.named ∙ ap (λ m. with_name c.args.name.now m named) c.in_ok-tidied.ensures.mesh in
    tidy_named c.args.name.now source (mesh_at named source) mesh named is c.in_ok-tidied.tidied.collapsed c.in_ok-tidied.ensures.collapsed
    (on_output g.O.Sink c.args.out.now) (on_output g.O.Sink c.say_tidied.new.sink) (named_in c.define.new.self) after c.in_ok-say_tidied.ensures.meets

pub returns-clause-named : goal.returns-clause-named
returns-clause-named g c = (c.in_ok-tidied.tidied.mesh, c.in_ok-define.ensures.named)
