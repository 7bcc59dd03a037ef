use Rattle.std.proofs.Common.{◌≡◌, ◌∙◌, ap, length, sym}
use Rattle.std.proofs.lemmas.Result.{err_from_is_err_and}
use Rattle.inspection_terms.specs.Inspected.{IsCut, pairs_below}
use Rattle.inspection_laws.specs.Counts.{cuts_of}
use Rattle.inspection_laws.proofs.Counted.{cuts_are_counted, one_count}
use Rattle.mb_outside.specs.Seen.{on_output}
use Rattle.report_lines.specs.Inspections.{IsInspectionOf}
use Rattle.play_laws.proofs.Tasks.{meets_starved}
use Rattle.play_terms.specs.Plays.{inspect_task, mesh_at}
use Rattle.script_runs.specs.Names.{named_in}
use Rattle.script_runs.specs.Operations.{meanings}
use Rattle.script_runs.proofs.Stages.{beside, inspect_told, inspect_unsaid}
use Rattle.script_runs.proofs.inspecting.inspect_mesh.Goals as goal

pub returns-in_err-seen-clause-meets : goal.returns-in_err-seen-clause-meets
returns-in_err-seen-clause-meets g c kernels on =
    let e = err_from_is_err_and c.from_residual.result c.from_residual.ensures.1 in
    let named = named_in c.args.names.now in
    rw (e.1, e.2)
    (meets_starved (inspect_task (meanings kernels) c.args.digits c.args.name.now (mesh_at named c.args.name.now) named) (beside on (on_output g.O.Sink c.args.out.now)))

pub returns-in_err-say_inspected-clause-meets : goal.returns-in_err-say_inspected-clause-meets
returns-in_err-say_inspected-clause-meets g c kernels =
    let e = err_from_is_err_and c.from_residual-in_err-say_inspected.result c.from_residual-in_err-say_inspected.ensures.1 in
    let named = named_in c.args.names.now in
    let mesh = c.mesh_of-mesh.result.now in
    let is = sym c.mesh_of-mesh.ensures in
    let i = c.in_ok-seen.ensures in
    let cuts : c.in_ok-seen.seen.cuts ≡ cuts_of mesh = one_count (IsCut mesh) (pairs_below (length mesh.triples)) _ _ i.cuts (cuts_are_counted mesh) in
    let seen : IsInspectionOf mesh (cuts_of mesh) c.in_ok-seen.seen =
    record { low = i.low; high = i.high; flat = i.flat; doubled = i.doubled; touching = i.touching; cuts = cuts } in
    rw (e.1, e.2)
    (inspect_unsaid (meanings kernels) c.args.digits c.args.name.now (mesh_at named c.args.name.now) mesh named is (on_output g.O.Sink c.args.out.now)
    (on_output g.O.Sink c.say_inspected.new.sink) _ (c.in_err-say_inspected.ensures.meets mesh (cuts_of mesh) seen))

pub returns-clause-meets : goal.returns-clause-meets
returns-clause-meets g c kernels =
    let named = named_in c.args.names.now in
    let mesh = c.mesh_of-mesh.result.now in
    let is = sym c.mesh_of-mesh.ensures in
    let i = c.in_ok-seen.ensures in
    let cuts : c.in_ok-seen.seen.cuts ≡ cuts_of mesh = one_count (IsCut mesh) (pairs_below (length mesh.triples)) _ _ i.cuts (cuts_are_counted mesh) in
    let seen : IsInspectionOf mesh (cuts_of mesh) c.in_ok-seen.seen =
    record { low = i.low; high = i.high; flat = i.flat; doubled = i.doubled; touching = i.touching; cuts = cuts } in
    inspect_told (meanings kernels) c.args.digits c.args.name.now (mesh_at named c.args.name.now) mesh named is (on_output g.O.Sink c.args.out.now)
    (on_output g.O.Sink c.say_inspected.new.sink) (c.in_ok-say_inspected.ensures.meets mesh (cuts_of mesh) seen)
