use Rattle.std.proofs.Common.{◌≡◌, ◌∙◌, ap, sym}
use Rattle.std.proofs.lemmas.Result.{err_from_is_err_and}
use Rattle.mb_outside.specs.Seen.{on_output}
use Rattle.report_lines.specs.Measures.{IsMeasureOf}
use Rattle.play_laws.proofs.Tasks.{meets_starved}
use Rattle.play_terms.specs.Plays.{measure_task, mesh_at}
use Rattle.script_runs.specs.Names.{named_in}
use Rattle.script_runs.proofs.Stages.{beside, measure_told, measure_unsaid}
use Rattle.script_runs.proofs.measuring.measure_mesh.Goals as goal

pub returns-in_err-measure-clause-meets : goal.returns-in_err-measure-clause-meets
returns-in_err-measure-clause-meets g c on =
    let e = err_from_is_err_and c.from_residual.result c.from_residual.ensures.1 in
    let named = named_in c.args.names.now in
    rw (e.1, e.2) (meets_starved (measure_task c.args.name.now (mesh_at named c.args.name.now) named) (beside on (on_output g.O.Sink c.args.out.now)))

pub returns-in_err-say_measured-clause-meets : goal.returns-in_err-say_measured-clause-meets
returns-in_err-say_measured-clause-meets g c =
    let e = err_from_is_err_and c.from_residual-in_err-say_measured.result c.from_residual-in_err-say_measured.ensures.1 in
    let named = named_in c.args.names.now in
    let mesh = c.mesh_of-mesh.result.now in
    let is = sym c.mesh_of-mesh.ensures in
    let m = c.in_ok-measure.ensures in
    let measured : IsMeasureOf mesh c.in_ok-measure.measure = record { points = m.points; triangles = m.triangles; components = m.count; euler = m.euler; volume6 = m.volume } in
    rw (e.1, e.2)
    (measure_unsaid c.args.name.now (mesh_at named c.args.name.now) mesh named is (on_output g.O.Sink c.args.out.now)
    (on_output g.O.Sink c.say_measured.new.sink) _ (c.in_err-say_measured.ensures.meets mesh measured))

pub returns-clause-meets : goal.returns-clause-meets
returns-clause-meets g c =
    let named = named_in c.args.names.now in
    let mesh = c.mesh_of-mesh.result.now in
    let is = sym c.mesh_of-mesh.ensures in
    let m = c.in_ok-measure.ensures in
    let measured : IsMeasureOf mesh c.in_ok-measure.measure = record { points = m.points; triangles = m.triangles; components = m.count; euler = m.euler; volume6 = m.volume } in
    measure_told c.args.name.now (mesh_at named c.args.name.now) mesh named is (on_output g.O.Sink c.args.out.now) (on_output g.O.Sink c.say_measured.new.sink)
    (c.in_ok-say_measured.ensures.meets mesh measured)
