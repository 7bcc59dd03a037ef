use Rattle.std.proofs.Common.{[], ap, arith, get_or, length, refl, ◌∙◌}
use Rattle.mesh_terms.specs.Meshes.{triple_of}
use Rattle.inspection_terms.specs.Triangles.{is_flat}
use Rattle.self_cuts.proofs.FullEdges.{flat_ends, full_ends}
use Rattle.self_cuts.proofs.Reading.{IsRead, read}
use Rattle.self_cuts.proofs.edges.push_full.Goals as goal
use Rattle.self_cuts.proofs.edges.push_full.Goals.{After-triples}

-- the triangle that is read, and its vertices
is_read : (c : After-triples) → IsRead c.args.mesh.now c.triples.result.now c.args.t (length c.args.mesh.now.points)
is_read c = read c.args.mesh.now c.triples.result.now c.args.t (length c.args.mesh.now.points) c.triples.ensures.accepted c.triples.ensures.value refl c.requires.within

pub bounds-firsts-a : goal.bounds-firsts-a
bounds-firsts-a c = omega (arith, (is_read (goal.at.bounds-firsts-a c).After-triples).low.a, c.requires.full)

pub bounds-firsts-b : goal.bounds-firsts-b
bounds-firsts-b c = omega (arith, (is_read (goal.at.bounds-firsts-b c).After-triples).low.b, c.requires.full)

pub bounds-firsts-c : goal.bounds-firsts-c
bounds-firsts-c c = omega (arith, (is_read (goal.at.bounds-firsts-c c).After-triples).low.c, c.requires.full)

pub returns-then-is_flat-clause-lows : goal.returns-then-is_flat-clause-lows
returns-then-is_flat-clause-lows c =
    flat_ends c.args.mesh.now c.args.firsts.now c.args.t (λ e. e.0) c.args.lows.now.items (c.if-is_flat.ensures ∙ ap is_flat c.face_at.ensures)

pub returns-then-is_flat-clause-highs : goal.returns-then-is_flat-clause-highs
returns-then-is_flat-clause-highs c =
    flat_ends c.args.mesh.now c.args.firsts.now c.args.t (λ e. e.1) c.args.highs.now.items (c.if-is_flat.ensures ∙ ap is_flat c.face_at.ensures)

pub returns-clause-lows : goal.returns-clause-lows
returns-clause-lows c =
    let is = is_read (goal.at.returns-clause-lows c).After-triples in
    let v = triple_of (get_or c.triples.result.now c.args.t []) in
    full_ends c.args.mesh.now c.args.firsts.now c.args.t (λ e. e.0) c.args.lows.now.items v.0 v.1 v.2 _ (c.if-is_flat.ensures ∙ ap is_flat c.face_at.ensures)
    (λ i. (is.same i).0) (λ i. (is.same i).1) (λ i. (is.same i).2) c.in_ok-push_edges.ensures.lows

pub returns-clause-highs : goal.returns-clause-highs
returns-clause-highs c =
    let is = is_read (goal.at.returns-clause-highs c).After-triples in
    let v = triple_of (get_or c.triples.result.now c.args.t []) in
    full_ends c.args.mesh.now c.args.firsts.now c.args.t (λ e. e.1) c.args.highs.now.items v.0 v.1 v.2 _ (c.if-is_flat.ensures ∙ ap is_flat c.face_at.ensures)
    (λ i. (is.same i).0) (λ i. (is.same i).1) (λ i. (is.same i).2) c.in_ok-push_edges.ensures.highs
