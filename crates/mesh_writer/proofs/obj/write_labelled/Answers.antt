use Rattle.std.proofs.Common.{◌≡◌, ◌<◌, ◌≤◌, ◌∙◌, ℕ, List, [], get_or, length, take, take_all, refl, sym, ap, subst, arith, rules}
use Rattle.std.specs.List.{flat_map}
use Rattle.std.proofs.lemmas.Result.{err_from_is_err_and}
use Rattle.chain_terms.specs.Sums.{upto}
use Rattle.chain_laws.proofs.Places.{get_or-up_from, length-up_from}
use Rattle.mesh_terms.specs.Meshes.{triple_of}
use Rattle.mesh_writer.specs.Faces.{lines_at}
use Rattle.mesh_writer.specs.Passing.{PassedOn, StoppedOn}
use Rattle.mesh_writer.proofs.LabelledFaces.{faces_at, next_before, put_both, stored_triple, as_many}
use Rattle.mesh_writer.proofs.Passing.{passed-none, line_passed, line_stopped}
use Rattle.mesh_writer.proofs.Written.{kept-same, kept-then}
use Rattle.mesh_writer.proofs.obj.write_labelled.Goals as goal

pub loop-place-init : goal.loop-place-init
loop-place-init g c = record {
  before = search rules;
  free = search rules;
  idle = λ none. (refl, refl);
  passed = passed-none c.args.page.now.items (g.K.Sink.told c.args.sink.now) (g.K.Sink.room c.args.sink.now);
  count = search rules;
  kept = kept-same g.K.Sink c.args.sink.now;
}

pub put_change-requires-clause-same : goal.put_change-requires-clause-same
put_change-requires-clause-same g c same =
    c.label-label.ensures.value ∙ sym (c.repeats.ensures same) ∙ sym c.loop-place.invariant.before

pub loop-place-preserved : goal.loop-place-preserved
loop-place-preserved g c =
    let mesh = c.args.mesh.now in
    let place = c.loop-place.place in
    let triples = c.triples-triples.result.now in
    let inv = c.loop-place.invariant in
    let e = c.in_ok-send_full.ensures in
    let many = as_many triples mesh.triples c.triples-triples.ensures.value in
    let within : place < length mesh.triples = omega (arith, c.loop-place-test.true, many) in
    let number : place ≡ get_or (upto (length mesh.triples)) place 0 = omega (arith, get_or-up_from 0 (length mesh.triples) place 0 within) in
    let both =
    put_both mesh.labels mesh.triples place c.loop-place.page.items c.put_change.new.page.items c.put_face.new.page.items c.loop-place.before.now
    c.label-label.result.now (triple_of (get_or triples place []))
    c.put_change.ensures.text c.put_face.ensures inv.before c.label-label.ensures.value
    (stored_triple triples mesh.triples place c.triples-triples.ensures.value c.loop-place-test.true) in
    record {
      before = next_before mesh.labels place c.label-label.result.now c.label-label.ensures.value;
      free = e.free;
      idle = λ none. absurd (omega (arith, none, within));
      passed = line_passed (lines_at mesh.labels mesh.triples) (upto (length mesh.triples)) place 0 place number
          (omega (arith, within, length-up_from 0 (length mesh.triples))) _ _ _ _ _ _ _ _ _ _ inv.passed both e.passed;
      count = e.count.ok (search rules) ∙ inv.count;
      kept = kept-then g.K.Sink _ _ _ inv.kept e.kept;
    }

pub returns-in_err-send_full-clause-stopped : goal.returns-in_err-send_full-clause-stopped
returns-in_err-send_full-clause-stopped g c =
    let p = err_from_is_err_and c.from_residual.result c.from_residual.ensures.1 in
    let mesh = c.args.mesh.now in
    let place = c.loop-place.place in
    let triples = c.triples-triples.result.now in
    let many = as_many triples mesh.triples c.triples-triples.ensures.value in
    let within : place < length mesh.triples = omega (arith, c.loop-place-test.true, many) in
    let number : place ≡ get_or (upto (length mesh.triples)) place 0 = omega (arith, get_or-up_from 0 (length mesh.triples) place 0 within) in
    let both =
    put_both mesh.labels mesh.triples place c.loop-place.page.items c.put_change.new.page.items c.put_face.new.page.items c.loop-place.before.now
    c.label-label.result.now (triple_of (get_or triples place []))
    c.put_change.ensures.text c.put_face.ensures c.loop-place.invariant.before c.label-label.ensures.value
    (stored_triple triples mesh.triples place c.triples-triples.ensures.value c.loop-place-test.true) in
    let P : List ℕ → Type 0 = λ text. StoppedOn g.K.Sink text c.args.page.now.items (c.args.sink.now, c.send_full.new.sink) in
    rw p.1 (subst P (sym (faces_at mesh.labels mesh.triples c.requires.each))
    (line_stopped (lines_at mesh.labels mesh.triples) (upto (length mesh.triples)) place 0 place number
    (omega (arith, within, length-up_from 0 (length mesh.triples))) _ _ _ _ _ _ _ _ _ c.loop-place.invariant.passed both c.in_err-send_full.ensures.stopped))

pub returns-clause-passed : goal.returns-clause-passed
returns-clause-passed g c =
    let mesh = c.args.mesh.now in
    let n = length mesh.triples in
    let many = as_many c.triples-triples.result.now mesh.triples c.triples-triples.ensures.value in
    let end : n ≤ c.loop-place.place = omega (arith, c.loop-place-test.false, many) in
    let whole : take c.loop-place.place (upto n) ≡ upto n = take_all c.loop-place.place (upto n) (omega (arith, end, length-up_from 0 n)) in
    let P : List ℕ → Type 0 = λ text. PassedOn g.K.Sink text (c.args.page.now.items, c.loop-place.page.items) (c.args.sink.now, c.loop-place.sink) in
    subst P (ap (flat_map (lines_at mesh.labels mesh.triples)) whole ∙ sym (faces_at mesh.labels mesh.triples c.requires.each)) c.loop-place.invariant.passed
