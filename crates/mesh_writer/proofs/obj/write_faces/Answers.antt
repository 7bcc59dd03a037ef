use Rattle.std.proofs.Common.{get_or, refl, ◌∙◌, arith, rules, []}
use Rattle.std.proofs.lemmas.Result.{err_from_is_err_and}
use Rattle.mesh_terms.specs.Meshes.{triple_of}
use Rattle.format_terms.specs.ObjWritten.{face_line}
use Rattle.mesh_writer.proofs.Passing.{passed-none, line_passed, line_stopped}
use Rattle.mesh_writer.proofs.Written.{kept-same, kept-then}
use Rattle.mesh_writer.proofs.obj.write_faces.Goals as goal

pub loop-triple-init : goal.loop-triple-init
loop-triple-init g c = record {
  free = search rules;
  idle = λ none. (refl, refl);
  passed = passed-none c.args.page.now.items (g.K.Sink.told c.args.sink.now) (g.K.Sink.room c.args.sink.now);
  count = search rules;
  kept = kept-same g.K.Sink c.args.sink.now;
}

pub loop-triple-preserved : goal.loop-triple-preserved
loop-triple-preserved g c =
    let inv = c.loop-triple.invariant in
    let e = c.in_ok-send_full.ensures in
    record {
      free = e.free;
      idle = λ none. absurd (omega (arith, none, c.loop-triple-test.true));
      passed = line_passed (λ t. face_line (triple_of t)) c.args.triples.now c.loop-triple.triple-index []
          (get_or c.args.triples.now c.loop-triple.triple-index []) refl c.loop-triple-test.true _ _ _ _ _ _ _ _ _ _ inv.passed c.put_face.ensures e.passed;
      count = e.count.ok (search rules) ∙ inv.count;
      kept = kept-then g.K.Sink _ _ _ inv.kept e.kept;
    }

pub returns-in_err-send_full-clause-stopped : goal.returns-in_err-send_full-clause-stopped
returns-in_err-send_full-clause-stopped g c =
    let p = err_from_is_err_and c.from_residual.result c.from_residual.ensures.1 in
    rw p.1 (line_stopped (λ t. face_line (triple_of t)) c.args.triples.now c.loop-triple.triple-index []
    (get_or c.args.triples.now c.loop-triple.triple-index []) refl c.loop-triple-test.true _ _ _ _ _ _ _ _ _ c.loop-triple.invariant.passed c.put_face.ensures
    c.in_err-send_full.ensures.stopped)
