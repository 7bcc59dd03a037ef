use Rattle.std.proofs.Common.{ℕ, ◌≡◌, ◌↔◌, ◌+◌, ◌≤◌, map, length, sym, ap, ◌∙◌, arith}
use Rattle.std.specs.Prelude.{IsTrue, slice_index}
use Rattle.std.proofs.lemmas.List.{length-map}
use Rattle.std.proofs.lemmas.Result.{IfOk-weaker}
use Rattle.chain_terms.specs.Sums.{upto}
use Rattle.places_by_key.specs.Buckets.{places_of}
use Rattle.places_by_key.proofs.Upto.{length-map-upto}
use Rattle.side_terms.specs.Prescribed.{crossing_count, p_kept, p_number, q_kept, q_number, vertex_count}
use Rattle.source_face_terms.specs.Filled.{face_segments, points_of_copies}
use Rattle.mesh_terms.specs.Limits.{most_points}
use Rattle.mesh_terms.specs.Meshes.{triple_of, triples_of}
use Rattle.retained_verts.specs.Handed.{copies, numbers}
use Rattle.retained_verts.proofs.Lengths.{all_copies_counted}
use Rattle.source_face_terms.specs.Segments.{source_count}
use Rattle.source_faces.specs.Agreement.{records_of}
use Rattle.source_faces.specs.ListParts.{segments_by}
use Rattle.source_faces.specs.Given.{given_p_runs, given_q_runs, given_stands}
use Rattle.source_faces.proofs.FromGiven.{p_runs_given, q_runs_given, stands_given}
use Rattle.mesh_boolean.specs.Bounded.{HaveBoundaries}
use Rattle.mesh_boolean.specs.BoundedFaces.{HaveBoundariesFrom}
use Rattle.mesh_boolean.proofs.Chosen.{gathered_within}
use Rattle.mesh_boolean.proofs.BoundedFaces.{AreTold, both_bounded}
use Rattle.mesh_boolean.proofs.GivenSegments.{segments_same}
use Rattle.mesh_boolean.proofs.bounded.all.are_bounded.Goals as goal
use Rattle.mesh_boolean.proofs.bounded.all.are_bounded.Goals.{After-deref-6, After-given_have_segments}

-- the vertices of both meshes that are kept are few, and so are the copies of hits
kept_few : (c : After-given_have_segments) →
    slice_index c.args.prescribed.now.kept 0 + slice_index c.args.prescribed.now.kept 1 + crossing_count c.args.op
    (numbers c.args.windings.now c.args.hits.now) ≤ most_points
kept_few c =
    let given = c.requires.given in
    let all = all_copies_counted c.args.op c.args.p.now c.args.q.now (numbers c.args.windings.now c.args.hits.now) given.fit.w03 given.fit.w30 in
    let p = ap (λ k. slice_index k 0) given.kept in
    let q = ap (λ k. slice_index k 1) given.kept in
    omega (arith, given.few, all, p, q)

pub runs_of-requires-clause-fits : goal.runs_of-requires-clause-fits
runs_of-requires-clause-fits c =
    let few = kept_few (goal.at.runs_of-requires-clause-fits c).After-given_have_segments in
    let same : vertex_count (p_number c.args.op) c.deref.result.now ≡ p_kept c.args.op (numbers c.args.windings.now c.args.hits.now) =
    ap (vertex_count (p_number c.args.op)) c.deref.ensures.value in
    let kept = ap (λ k. slice_index k 0) c.requires.given.kept in
    omega (arith, few, same, kept)

pub overflow_cast-p_kept : goal.overflow_cast-p_kept
overflow_cast-p_kept c = omega (arith, kept_few (goal.at.overflow_cast-p_kept c).After-given_have_segments)

pub runs_of-requires-2-clause-fits : goal.runs_of-requires-2-clause-fits
runs_of-requires-2-clause-fits c =
    let few = kept_few (goal.at.runs_of-requires-2-clause-fits c).After-given_have_segments in
    let same : vertex_count (q_number c.args.op) c.deref-2.result.now ≡ q_kept c.args.op (numbers c.args.windings.now c.args.hits.now) =
    ap (vertex_count (q_number c.args.op)) c.deref-2.ensures.value in
    let kept = ap (λ k. slice_index k 1) c.requires.given.kept in
    omega (arith, few, same, kept)

pub overflow_add-p_kept : goal.overflow_add-p_kept
overflow_add-p_kept c = omega (arith, kept_few (goal.at.overflow_add-p_kept c).After-given_have_segments)

pub overflow_cast-p_kept-2 : goal.overflow_cast-p_kept-2
overflow_cast-p_kept-2 c = omega (arith, kept_few (goal.at.overflow_cast-p_kept-2 c).After-given_have_segments)

pub stands_of-requires-clause-fits : goal.stands_of-requires-clause-fits
stands_of-requires-clause-fits c = omega (arith, kept_few (goal.at.stands_of-requires-clause-fits c).After-given_have_segments)

-- the runs, the records and the points are those of what is given
p_runs_are : (c : After-deref-6) → c.deref-3.result.now ≡ given_p_runs c.args.op (numbers c.args.windings.now c.args.hits.now)
p_runs_are c =
    p_runs_given c.args.op (numbers c.args.windings.now c.args.hits.now) c.deref.result.now c.deref-3.result.now c.in_ok-p_runs.p_runs.items
    c.deref-3.ensures.value c.in_ok-p_runs.ensures c.deref.ensures.value

q_runs_are : (c : After-deref-6) → c.deref-4.result.now ≡ given_q_runs c.args.op (numbers c.args.windings.now c.args.hits.now)
q_runs_are c =
    q_runs_given c.args.op (numbers c.args.windings.now c.args.hits.now) c.args.prescribed.now.kept c.deref-2.result.now
    c.deref-4.result.now c.in_ok-q_runs.q_runs.items c.deref-4.ensures.value c.in_ok-q_runs.ensures c.deref-2.ensures.value c.requires.given.kept

stands_are : (c : After-deref-6) →
    c.deref-5.result.now ≡ given_stands c.args.op c.args.p.now c.args.q.now (numbers c.args.windings.now c.args.hits.now)
stands_are c =
    stands_given c.args.op c.args.p.now c.args.q.now (numbers c.args.windings.now c.args.hits.now) c.args.prescribed.now.kept
    c.deref-5.result.now c.in_ok-stands.stands.items c.deref-5.ensures.value c.in_ok-stands.ensures c.requires.given.kept

points_are : (c : After-deref-6) →
    c.deref-6.result.now ≡ points_of_copies (copies c.args.op c.args.p.now c.args.q.now c.args.windings.now c.args.hits.now)
points_are c = c.deref-6.ensures.value ∙ c.requires.given.points

pub both_are_bounded-requires-clause-p_faces : goal.both_are_bounded-requires-clause-p_faces
both_are_bounded-requires-clause-p_faces c =
    let at = (goal.at.both_are_bounded-requires-clause-p_faces c).After-deref-6 in
    let n = numbers c.args.windings.now c.args.hits.now in
    let cs = copies c.args.op c.args.p.now c.args.q.now c.args.windings.now c.args.hits.now in
    segments_same c.args.p.now c.deref-3.result.now (given_p_runs c.args.op n) c.deref-6.result.now (points_of_copies cs) 0
    c.deref-5.result.now (given_stands c.args.op c.args.p.now c.args.q.now n) (p_runs_are at) (points_are at) (stands_are at)
    c.given_have_segments.ensures.p_faces

pub both_are_bounded-requires-clause-q_faces : goal.both_are_bounded-requires-clause-q_faces
both_are_bounded-requires-clause-q_faces c =
    let at = (goal.at.both_are_bounded-requires-clause-q_faces c).After-deref-6 in
    let n = numbers c.args.windings.now c.args.hits.now in
    let cs = copies c.args.op c.args.p.now c.args.q.now c.args.windings.now c.args.hits.now in
    segments_same c.args.q.now c.deref-4.result.now (given_q_runs c.args.op n) c.deref-6.result.now (points_of_copies cs)
    (length c.args.p.now.triples) c.deref-5.result.now (given_stands c.args.op c.args.p.now c.args.q.now n) (q_runs_are at) (points_are at)
    (stands_are at) c.given_have_segments.ensures.q_faces

-- as many buckets as source faces
faces_counted : (c : After-deref-6) → length c.triples.result.now + length c.triples-2.result.now ≡ source_count c.args.p.now c.args.q.now
faces_counted c =
    omega (
      arith,
      ap length c.triples.ensures.value,
      length-map c.triples.result.now triple_of,
      ap length c.triples-2.ensures.value,
      length-map c.triples-2.result.now triple_of,
    )

gathered : (c : After-deref-6) → c.in_ok-places.places ≡ map (places_of c.args.source.now) (upto (source_count c.args.p.now c.args.q.now))
gathered c = c.in_ok-places.ensures ∙ ap (λ n. map (places_of c.args.source.now) (upto n)) (faces_counted c)

pub both_are_bounded-requires-clause-full : goal.both_are_bounded-requires-clause-full
both_are_bounded-requires-clause-full c =
    let at = (goal.at.both_are_bounded-requires-clause-full c).After-deref-6 in
    omega (arith, ap length (gathered at), length-map-upto (places_of c.args.source.now) (source_count c.args.p.now c.args.q.now))

pub both_are_bounded-requires-clause-within : goal.both_are_bounded-requires-clause-within
both_are_bounded-requires-clause-within c =
    let at = (goal.at.both_are_bounded-requires-clause-within c).After-deref-6 in
    gathered_within c.args.source.now (source_count c.args.p.now c.args.q.now) (length c.args.triples.now) c.in_ok-places.places (gathered at) c.requires.each

-- the faces of both sides have their segments from these lists, and the places of their triangles are known
told : (c : After-deref-6) →
    AreTold c.args.p.now c.args.q.now (copies c.args.op c.args.p.now c.args.q.now c.args.windings.now c.args.hits.now) c.deref-3.result.now c.deref-4.result.now
    c.deref-6.result.now c.deref-5.result.now c.args.source.now (triples_of c.args.triples.now) c.in_ok-places.places
told c =
    let p = c.args.p.now in
    let q = c.args.q.now in
    let cs = copies c.args.op p q c.args.windings.now c.args.hits.now in
    let m = length p.triples in
    let given = c.given_have_segments.ensures in
    let from_0 : (f : ℕ) → f ≡ 0 + f = λ f. omega arith in
    record {
      long = c.requires.each ∙ sym (length-map c.args.triples.now triple_of);
      gathered = gathered c;
      p_same = λ f low.
          (λ i. segments_by p (p_runs_are c i) (points_are c i) f (records_of (stands_are c i) (0 + f)))
          ∙ given.p_same f low ∙ ap (face_segments p q cs) (from_0 f);
      q_same = λ g low. (λ i. segments_by q (q_runs_are c i) (points_are c i) g (records_of (stands_are c i) (m + g))) ∙ given.q_same g low;
    }

pub returns : goal.returns
returns c =
    let at = (goal.at.returns c).After-deref-6 in
    let p = c.args.p.now in
    let q = c.args.q.now in
    let cs = copies c.args.op p q c.args.windings.now c.args.hits.now in
    let p_runs = c.deref-3.result.now in
    let q_runs = c.deref-4.result.now in
    let stands = c.deref-5.result.now in
    let points = c.deref-6.result.now in
    let places = c.in_ok-places.places in
    let source = c.args.source.now in
    let us = triples_of c.args.triples.now in
    let m = length p.triples in
    let n = length q.triples in
    let both = both_bounded p q cs p_runs q_runs points stands source us places (told at) in
    IfOk-weaker c.both_are_bounded.result
    (λ answer. IsTrue answer
    ↔ (HaveBoundariesFrom p p_runs points 0 stands us places m × HaveBoundariesFrom q q_runs points m stands us places n))
    (λ answer. IsTrue answer ↔ HaveBoundaries p q cs source us)
    (λ answer iff. ((λ e. both.0 (iff.0 e)), (λ all. iff.1 (both.1 all)))) c.both_are_bounded.ensures
