use Rattle.std.proofs.Common.{◌∙◌, ap}
use Rattle.std.proofs.lemmas.Result.{err_from_is_err_and}
use Rattle.play_laws.proofs.Tasks.{meets_starved}
use Rattle.made_terms.specs.Making.{solid_fault, solid_mesh}
use Rattle.play_terms.specs.Plays.{make_task, with_name}
use Rattle.script_runs.specs.Names.{named_in}
use Rattle.script_runs.proofs.MadeMeshes.{made_so, unmade}
use Rattle.script_runs.proofs.making.make.Goals as goal

pub returns-in-Err-clause-meets : goal.returns-in-Err-clause-meets
returns-in-Err-clause-meets c now =
    let solid = c.args.solid in
    rw c.halt_at.ensures.why
    (unmade c.args.at.now.script.now c.args.at.now.line c.args.name.now (solid_mesh solid) (named_in c.args.names.now) _ (solid_fault c.args.at.now.limits.now solid) c.in-Err.fault
    c.in-Err.ensures.refused now)

pub returns-in_err-define-clause-meets : goal.returns-in_err-define-clause-meets
returns-in_err-define-clause-meets c now =
    let e = err_from_is_err_and c.from_residual.result c.from_residual.ensures.1 in
    rw (e.1, e.2) (meets_starved (make_task c.args.at.now.limits.now c.args.at.now.script.now c.args.at.now.line c.args.name.now c.args.solid (named_in c.args.names.now)) now)

pub returns-clause-meets : goal.returns-clause-meets
returns-clause-meets c now =
    let solid = c.args.solid in
    let name = c.args.name.now in
    let named = named_in c.args.names.now in
    let is = c.in_ok-define.ensures.named ∙ ap (λ m. with_name name m named) c.in-Ok.ensures.mesh in
    made_so c.args.at.now.script.now c.args.at.now.line name (solid_mesh solid) named (solid_fault c.args.at.now.limits.now solid) c.in-Ok.mesh c.in-Ok.ensures.refused
    (named_in c.define.new.self) is now

pub returns-clause-named : goal.returns-clause-named
returns-clause-named c = (c.in-Ok.mesh, c.in_ok-define.ensures.named)
