use Rattle.std.proofs.Common.{◌∙◌, refl, arith, rules}
use Rattle.std.proofs.lemmas.Result.{err_from_is_err_and}
use Rattle.format_terms.specs.ObjWritten.{point_line}
use Rattle.mesh_writer.proofs.Passing.{passed-none, line_passed, line_stopped}
use Rattle.mesh_writer.proofs.Written.{kept-same, kept-then}
use Rattle.mesh_writer.proofs.obj.write_points.Goals as goal

pub loop-point-init : goal.loop-point-init
loop-point-init g c = record {
  free = search rules;
  idle = λ none. (refl, refl);
  passed = passed-none c.args.page.now.items (g.K.Sink.told c.args.sink.now) (g.K.Sink.room c.args.sink.now);
  count = search rules;
  kept = kept-same g.K.Sink c.args.sink.now;
}

pub loop-point-preserved : goal.loop-point-preserved
loop-point-preserved g c =
    let inv = c.loop-point.invariant in
    let e = c.in_ok-send_full.ensures in
    record {
      free = e.free;
      idle = λ none. absurd (omega (arith, none, c.loop-point-test.true));
      passed = line_passed (point_line c.args.digits) c.args.points.now c.loop-point.point-index c.point-item.result c.point-item.result c.point-item.is
          c.loop-point-test.true _ _ _ _ _ _ _ _ _ _ inv.passed c.put_point.ensures e.passed;
      count = e.count.ok (search rules) ∙ inv.count;
      kept = kept-then g.K.Sink _ _ _ inv.kept e.kept;
    }

pub returns-in_err-send_full-clause-stopped : goal.returns-in_err-send_full-clause-stopped
returns-in_err-send_full-clause-stopped g c =
    let p = err_from_is_err_and c.from_residual.result c.from_residual.ensures.1 in
    rw p.1 (line_stopped (point_line c.args.digits) c.args.points.now c.loop-point.point-index c.point-item.result c.point-item.result c.point-item.is
    c.loop-point-test.true _ _ _ _ _ _ _ _ _ c.loop-point.invariant.passed c.put_point.ensures c.in_err-send_full.ensures.stopped)
