use Rattle.std.proofs.Common.{◌≡◌, ◌+◌, ◌≤◌, List, length, arith, ap, subst, ◌∙◌}
use Rattle.std.specs.Prelude.{IfOk, slice_index}
use Rattle.side_terms.specs.Prescribed.{crossing_count, p_kept, p_number, q_kept, q_number, vertex_count}
use Rattle.source_face_terms.specs.Filled.{all_filled, all_triples, forced_of, points_of_copies, sources_of}
use Rattle.mesh_terms.specs.Meshes.{triples_of}
use Rattle.retained_verts.specs.Handed.{copies, numbers}
use Rattle.ring_cutting.specs.Cuts.{Cut}
use Rattle.source_faces.specs.Given.{given_p_runs, given_q_runs, given_stands}
use Rattle.source_faces.specs.Parts.{AreAll}
use Rattle.source_faces.proofs.FromGiven.{both_same, p_runs_given, parts_same, q_runs_given, stands_given}
use Rattle.source_faces.proofs.Outcomes.{if_ok}
use Rattle.source_faces.proofs.all.triangles_of.Goals as goal
use Rattle.source_faces.proofs.all.triangles_of.Goals.{After-deref-6, After-given_have_parts}

pub runs_of-requires-clause-fits : goal.runs_of-requires-clause-fits
runs_of-requires-clause-fits c =
    let few = c.given_have_parts.ensures.few in
    let same : vertex_count (p_number c.args.op) c.deref.result.now ≡ p_kept c.args.op (numbers c.args.windings.now c.args.hits.now) =
    ap (vertex_count (p_number c.args.op)) c.deref.ensures.value in
    omega (arith, few, same)

pub overflow_cast-p_kept : goal.overflow_cast-p_kept
overflow_cast-p_kept c =
    let few = c.given_have_parts.ensures.few in
    let kept = ap (λ k. slice_index k 0) c.requires.kept in
    omega (arith, few, kept)

pub runs_of-requires-2-clause-fits : goal.runs_of-requires-2-clause-fits
runs_of-requires-2-clause-fits c =
    let few = c.given_have_parts.ensures.few in
    let same : vertex_count (q_number c.args.op) c.deref-2.result.now ≡ q_kept c.args.op (numbers c.args.windings.now c.args.hits.now) =
    ap (vertex_count (q_number c.args.op)) c.deref-2.ensures.value in
    let kept = ap (λ k. slice_index k 0) c.requires.kept in
    omega (arith, few, same, kept)

-- the vertices of both meshes that are kept are few, and so are the copies of hits
kept_few : (c : After-given_have_parts) →
    slice_index c.args.prescribed.now.kept 0 + slice_index c.args.prescribed.now.kept 1 + crossing_count c.args.op
    (numbers c.args.windings.now c.args.hits.now) ≤ 60000000
kept_few c =
    let few = c.given_have_parts.ensures.few in
    let p = ap (λ k. slice_index k 0) c.requires.kept in
    let q = ap (λ k. slice_index k 1) c.requires.kept in
    omega (arith, few, p, q)

pub overflow_add-p_kept : goal.overflow_add-p_kept
overflow_add-p_kept c = omega (arith, kept_few (goal.at.overflow_add-p_kept c).After-given_have_parts)

pub overflow_cast-p_kept-2 : goal.overflow_cast-p_kept-2
overflow_cast-p_kept-2 c = omega (arith, kept_few (goal.at.overflow_cast-p_kept-2 c).After-given_have_parts)

pub stands_of-requires-clause-fits : goal.stands_of-requires-clause-fits
stands_of-requires-clause-fits c = omega (arith, kept_few (goal.at.stands_of-requires-clause-fits c).After-given_have_parts)

-- the runs and the records are those of what is given
p_runs_are : (c : After-deref-6) → c.deref-3.result.now ≡ given_p_runs c.args.op (numbers c.args.windings.now c.args.hits.now)
p_runs_are c =
    p_runs_given c.args.op (numbers c.args.windings.now c.args.hits.now) c.deref.result.now c.deref-3.result.now c.in_ok-p_runs.p_runs.items
    c.deref-3.ensures.value c.in_ok-p_runs.ensures c.deref.ensures.value

q_runs_are : (c : After-deref-6) → c.deref-4.result.now ≡ given_q_runs c.args.op (numbers c.args.windings.now c.args.hits.now)
q_runs_are c =
    q_runs_given c.args.op (numbers c.args.windings.now c.args.hits.now) c.args.prescribed.now.kept c.deref-2.result.now
    c.deref-4.result.now c.in_ok-q_runs.q_runs.items c.deref-4.ensures.value c.in_ok-q_runs.ensures c.deref-2.ensures.value c.requires.kept

stands_are : (c : After-deref-6) →
    c.deref-5.result.now ≡ given_stands c.args.op c.args.p.now c.args.q.now (numbers c.args.windings.now c.args.hits.now)
stands_are c =
    stands_given c.args.op c.args.p.now c.args.q.now (numbers c.args.windings.now c.args.hits.now) c.args.prescribed.now.kept
    c.deref-5.result.now c.in_ok-stands.stands.items c.deref-5.ensures.value c.in_ok-stands.ensures c.requires.kept

points_are : (c : After-deref-6) →
    c.deref-6.result.now ≡ points_of_copies (copies c.args.op c.args.p.now c.args.q.now c.args.windings.now c.args.hits.now)
points_are c = c.deref-6.ensures.value ∙ c.requires.points

pub filled_of-requires-clause-p_parts : goal.filled_of-requires-clause-p_parts
filled_of-requires-clause-p_parts c =
    let at = (goal.at.filled_of-requires-clause-p_parts c).After-deref-6 in
    let n = numbers c.args.windings.now c.args.hits.now in
    let cs = copies c.args.op c.args.p.now c.args.q.now c.args.windings.now c.args.hits.now in
    parts_same c.args.p.now c.deref-3.result.now (given_p_runs c.args.op n) c.deref-6.result.now (points_of_copies cs) 0
    c.deref-5.result.now (given_stands c.args.op c.args.p.now c.args.q.now n) (p_runs_are at) (points_are at) (stands_are at)
    c.given_have_parts.ensures.parts.p_parts

pub filled_of-requires-clause-q_parts : goal.filled_of-requires-clause-q_parts
filled_of-requires-clause-q_parts c =
    let at = (goal.at.filled_of-requires-clause-q_parts c).After-deref-6 in
    let n = numbers c.args.windings.now c.args.hits.now in
    let cs = copies c.args.op c.args.p.now c.args.q.now c.args.windings.now c.args.hits.now in
    parts_same c.args.q.now c.deref-4.result.now (given_q_runs c.args.op n) c.deref-6.result.now (points_of_copies cs)
    (length c.args.p.now.triples) c.deref-5.result.now (given_stands c.args.op c.args.p.now c.args.q.now n) (q_runs_are at) (points_are at)
    (stands_are at) c.given_have_parts.ensures.parts.q_parts

-- the fillings are those of all source faces
all_there : (c : goal.After-drop-p_runs-2) →
    IfOk c.filled_of.result
    (AreAll (all_filled c.args.p.now c.args.q.now (copies c.args.op c.args.p.now c.args.q.now c.args.windings.now c.args.hits.now)))
all_there c =
    let at : After-deref-6 = c.before.before.before.before in
    let op = c.args.op in
    let p = c.args.p.now in
    let q = c.args.q.now in
    let n = numbers c.args.windings.now c.args.hits.now in
    let cs = copies op p q c.args.windings.now c.args.hits.now in
    let same =
    both_same p q c.deref-3.result.now (given_p_runs op n) c.deref-4.result.now (given_q_runs op n) c.deref-6.result.now
    (points_of_copies cs) c.deref-5.result.now (given_stands op p q n) (p_runs_are at) (q_runs_are at) (points_are at) (stands_are at) in
    subst (λ (parts : List Cut). IfOk c.filled_of.result (AreAll parts)) (same ∙ c.given_have_parts.ensures.parts.all) c.filled_of.ensures

pub returns-clause-triples : goal.returns-clause-triples
returns-clause-triples c =
    let parts = all_filled c.args.p.now c.args.q.now (copies c.args.op c.args.p.now c.args.q.now c.args.windings.now c.args.hits.now) in
    if_ok c.filled_of.result (AreAll parts) (λ r. triples_of r.triples.items ≡ all_triples parts) (λ r h. h.triples) (all_there c)

pub returns-clause-source : goal.returns-clause-source
returns-clause-source c =
    let parts = all_filled c.args.p.now c.args.q.now (copies c.args.op c.args.p.now c.args.q.now c.args.windings.now c.args.hits.now) in
    if_ok c.filled_of.result (AreAll parts) (λ r. r.source.items ≡ sources_of 0 parts) (λ r h. h.source) (all_there c)

pub returns-clause-forced : goal.returns-clause-forced
returns-clause-forced c =
    let parts = all_filled c.args.p.now c.args.q.now (copies c.args.op c.args.p.now c.args.q.now c.args.windings.now c.args.hits.now) in
    if_ok c.filled_of.result (AreAll parts) (λ r. r.forced ≡ forced_of parts) (λ r h. h.forced) (all_there c)
