use Rattle.std.proofs.Common.{◌≡◌, length, arith, ap, ◌∙◌}
use Rattle.std.specs.Prelude.{slice_index}
use Rattle.side_terms.specs.Prescribed.{p_kept, p_number, q_kept, q_number, vertex_count}
use Rattle.source_face_terms.specs.Filled.{points_of_copies}
use Rattle.retained_verts.specs.Handed.{copies, numbers}
use Rattle.source_faces.specs.Given.{given_p_runs, given_q_runs, given_stands}
use Rattle.source_faces.proofs.FromGiven.{p_runs_given, parts_same, q_runs_given, stands_given}
use Rattle.operation_tests.proofs.faces.words.push_faces.Goals as goal

pub runs_of-requires-clause-fits : goal.runs_of-requires-clause-fits
runs_of-requires-clause-fits c =
    let few = c.given_have_parts.ensures.few in
    let same : vertex_count (p_number c.args.op) c.deref.result.now ≡ p_kept c.args.op (numbers c.args.windings.now c.args.hits.now) =
    ap (vertex_count (p_number c.args.op)) c.deref.ensures.value in
    omega (arith, few, same)

pub overflow_cast-p_kept : goal.overflow_cast-p_kept
overflow_cast-p_kept c =
    let few = c.given_have_parts.ensures.few in
    let kept = ap (λ k. slice_index k 0) c.requires.kept in
    omega (arith, few, kept)

pub runs_of-requires-2-clause-fits : goal.runs_of-requires-2-clause-fits
runs_of-requires-2-clause-fits c =
    let few = c.given_have_parts.ensures.few in
    let same : vertex_count (q_number c.args.op) c.deref-2.result.now ≡ q_kept c.args.op (numbers c.args.windings.now c.args.hits.now) =
    ap (vertex_count (q_number c.args.op)) c.deref-2.ensures.value in
    let kept = ap (λ k. slice_index k 0) c.requires.kept in
    omega (arith, few, same, kept)

pub overflow_add-p_kept : goal.overflow_add-p_kept
overflow_add-p_kept c =
    let few = c.given_have_parts.ensures.few in
    let p = ap (λ k. slice_index k 0) c.requires.kept in
    let q = ap (λ k. slice_index k 1) c.requires.kept in
    omega (arith, few, p, q)

pub overflow_cast-p_kept-2 : goal.overflow_cast-p_kept-2
overflow_cast-p_kept-2 c =
    let few = c.given_have_parts.ensures.few in
    let p = ap (λ k. slice_index k 0) c.requires.kept in
    let q = ap (λ k. slice_index k 1) c.requires.kept in
    omega (arith, few, p, q)

pub stands_of-requires-clause-fits : goal.stands_of-requires-clause-fits
stands_of-requires-clause-fits c =
    let few = c.given_have_parts.ensures.few in
    let p = ap (λ k. slice_index k 0) c.requires.kept in
    let q = ap (λ k. slice_index k 1) c.requires.kept in
    omega (arith, few, p, q)

pub push_both-requires-clause-p_parts : goal.push_both-requires-clause-p_parts
push_both-requires-clause-p_parts c =
    let op = c.args.op in
    let p = c.args.p.now in
    let q = c.args.q.now in
    let n = numbers c.args.windings.now c.args.hits.now in
    let kept = c.args.prescribed.now.kept in
    let cs = copies op p q c.args.windings.now c.args.hits.now in
    let runs = p_runs_given op n c.deref.result.now c.deref-3.result.now c.in_ok-p_runs.p_runs.items c.deref-3.ensures.value c.in_ok-p_runs.ensures c.deref.ensures.value in
    let stands = stands_given op p q n kept c.deref-5.result.now c.in_ok-stands.stands.items c.deref-5.ensures.value c.in_ok-stands.ensures c.requires.kept in
    parts_same p c.deref-3.result.now (given_p_runs op n) c.deref-6.result.now (points_of_copies cs) 0 c.deref-5.result.now (given_stands op p q n) runs
    (c.deref-6.ensures.value ∙ c.requires.points) stands c.given_have_parts.ensures.parts.p_parts

pub push_both-requires-clause-q_parts : goal.push_both-requires-clause-q_parts
push_both-requires-clause-q_parts c =
    let op = c.args.op in
    let p = c.args.p.now in
    let q = c.args.q.now in
    let n = numbers c.args.windings.now c.args.hits.now in
    let kept = c.args.prescribed.now.kept in
    let cs = copies op p q c.args.windings.now c.args.hits.now in
    let runs = q_runs_given op n kept c.deref-2.result.now c.deref-4.result.now c.in_ok-q_runs.q_runs.items c.deref-4.ensures.value c.in_ok-q_runs.ensures
    c.deref-2.ensures.value c.requires.kept in
    let stands = stands_given op p q n kept c.deref-5.result.now c.in_ok-stands.stands.items c.deref-5.ensures.value c.in_ok-stands.ensures c.requires.kept in
    parts_same q c.deref-4.result.now (given_q_runs op n) c.deref-6.result.now (points_of_copies cs) (length p.triples) c.deref-5.result.now
    (given_stands op p q n) runs (c.deref-6.ensures.value ∙ c.requires.points) stands
    c.given_have_parts.ensures.parts.q_parts
