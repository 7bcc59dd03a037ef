use Rattle.std.proofs.Common.{◌≡◌, ◌∙◌, Result, ap, sym}
use Rattle.std.proofs.lemmas.Result.{err_from_is_err_and}
use Rattle.mb_outside.specs.Seen.{on_output}
use Rattle.mesh_terms.specs.Meshes.{Mesh}
use Rattle.operation_laws.specs.Kernels.{told_remeshed}
use Rattle.run_terms.specs.Tasks.{Refusal}
use Rattle.play_terms.specs.Combined.{Remeshed}
use Rattle.play_terms.specs.Plays.{OfMesh, mesh_at, with_name, within_remeshed}
use Rattle.play_terms.specs.ScriptLines.{remesh_line}
use Rattle.script_runs.specs.Names.{named_in}
use Rattle.script_runs.proofs.RemeshStages.{remeshed_as}
use Rattle.script_runs.proofs.Stages.{for_one, given_named, given_stopped, given_unnamed, given_unsaid}
use Rattle.script_runs.proofs.remeshing.remesh_mesh.Goals as goal

pub returns-in_err-remeshed-clause-meets : goal.returns-in_err-remeshed-clause-meets
returns-in_err-remeshed-clause-meets g c kernels =
    let e = err_from_is_err_and c.from_residual.result c.from_residual.ensures.1 in
    let named = named_in c.args.names.now in
    let name = c.args.name.now in
    let old = c.args.source.now in
    let is = sym c.mesh_of-mesh.ensures in
    let gives : Mesh → Result Remeshed Refusal = λ m. within_remeshed c.args.at.now.limits.now (told_remeshed m) in
    let out = on_output g.O.Sink c.args.out.now in
    rw (e.1, e.2)
    (given_stopped (gives (mesh_at named old)) (λ r. remesh_line name old r.planes r.kept) (λ r. OfMesh r.mesh) name named out out _
    (for_one gives _ is c.in_err-remeshed.ensures.meets))

pub returns-in_err-say_remeshed-clause-meets : goal.returns-in_err-say_remeshed-clause-meets
returns-in_err-say_remeshed-clause-meets g c kernels =
    let e = err_from_is_err_and c.from_residual-in_err-say_remeshed.result c.from_residual-in_err-say_remeshed.ensures.1 in
    let named = named_in c.args.names.now in
    let name = c.args.name.now in
    let old = c.args.source.now in
    let is = sym c.mesh_of-mesh.ensures in
    let r = told_remeshed c.mesh_of-mesh.result.now in
    let gives : Mesh → Result Remeshed Refusal = λ m. within_remeshed c.args.at.now.limits.now (told_remeshed m) in
    let out = on_output g.O.Sink c.args.out.now in
    let told = on_output g.O.Sink c.say_remeshed.new.sink in
    let done = for_one gives _ is c.in_ok-remeshed.ensures.meets in
    rw (e.1, e.2)
    (given_unsaid (gives (mesh_at named old)) (λ s. remesh_line name old s.planes s.kept) (λ s. OfMesh s.mesh) name named out told r _ done
    (remeshed_as name old _ _ r out told _ c.in_ok-remeshed.ensures.planes c.in_ok-remeshed.ensures.kept c.in_err-say_remeshed.ensures.meets))

pub returns-in_err-define-clause-meets : goal.returns-in_err-define-clause-meets
returns-in_err-define-clause-meets g c kernels =
    let e = err_from_is_err_and c.from_residual-in_err-define.result c.from_residual-in_err-define.ensures.1 in
    let named = named_in c.args.names.now in
    let name = c.args.name.now in
    let old = c.args.source.now in
    let is = sym c.mesh_of-mesh.ensures in
    let r = told_remeshed c.mesh_of-mesh.result.now in
    let gives : Mesh → Result Remeshed Refusal = λ m. within_remeshed c.args.at.now.limits.now (told_remeshed m) in
    let out = on_output g.O.Sink c.args.out.now in
    let told = on_output g.O.Sink c.say_remeshed.new.sink in
    let done = for_one gives _ is c.in_ok-remeshed.ensures.meets in
    rw (e.1, e.2)
    (given_unnamed (gives (mesh_at named old)) (λ s. remesh_line name old s.planes s.kept) (λ s. OfMesh s.mesh) name named out told r done
    (remeshed_as name old _ _ r out told _ c.in_ok-remeshed.ensures.planes c.in_ok-remeshed.ensures.kept c.in_ok-say_remeshed.ensures.meets))

pub returns-clause-meets : goal.returns-clause-meets
returns-clause-meets g c kernels =
    let named = named_in c.args.names.now in
    let name = c.args.name.now in
    let old = c.args.source.now in
    let is = sym c.mesh_of-mesh.ensures in
    let r = told_remeshed c.mesh_of-mesh.result.now in
    let gives : Mesh → Result Remeshed Refusal = λ m. within_remeshed c.args.at.now.limits.now (told_remeshed m) in
    let out = on_output g.O.Sink c.args.out.now in
    let told = on_output g.O.Sink c.say_remeshed.new.sink in
    let done = for_one gives _ is c.in_ok-remeshed.ensures.meets in
    let after = c.in_ok-define.ensures.named ∙ ap (λ m. with_name name m named) c.in_ok-remeshed.ensures.mesh in
    given_named (gives (mesh_at named old)) (λ s. remesh_line name old s.planes s.kept) (λ s. OfMesh s.mesh) name named out told r
    (named_in c.define.new.self) after done
    (remeshed_as name old _ _ r out told _ c.in_ok-remeshed.ensures.planes c.in_ok-remeshed.ensures.kept c.in_ok-say_remeshed.ensures.meets)

pub returns-clause-named : goal.returns-clause-named
returns-clause-named g c = (c.in_ok-remeshed.remeshed.mesh, c.in_ok-define.ensures.named)
