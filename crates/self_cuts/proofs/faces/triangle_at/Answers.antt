use Rattle.std.proofs.Common.{length, refl, ◌∙◌}
use Rattle.inspection_terms.specs.Triangles.{place_at}
use Rattle.self_cuts.proofs.Reading.{IsRead, read}
use Rattle.self_cuts.proofs.faces.triangle_at.Goals as goal
use Rattle.self_cuts.proofs.faces.triangle_at.Goals.{After-triples}

-- the triangle that is read, and its vertices
is_read : (c : After-triples) → IsRead c.args.mesh.now c.triples.result.now c.args.t (length c.args.mesh.now.points)
is_read c = read c.args.mesh.now c.triples.result.now c.args.t (length c.args.mesh.now.points) c.triples.ensures.accepted c.triples.ensures.value refl c.requires

pub place_at-requires : goal.place_at-requires
place_at-requires c = (is_read (goal.at.place_at-requires c).After-triples).low.a

pub place_at-requires-2 : goal.place_at-requires-2
place_at-requires-2 c = (is_read (goal.at.place_at-requires-2 c).After-triples).low.b

pub place_at-requires-3 : goal.place_at-requires-3
place_at-requires-3 c = (is_read (goal.at.place_at-requires-3 c).After-triples).low.c

pub returns : goal.returns
returns c =
    let is = is_read (goal.at.returns c).After-triples in
    let points = c.args.mesh.now.points in
    let a = c.place_at.ensures ∙ (λ i. place_at points (is.same i).0) in
    let b = c.place_at-2.ensures ∙ (λ i. place_at points (is.same i).1) in
    let d = c.place_at-3.ensures ∙ (λ i. place_at points (is.same i).2) in
    λ i. (a i, b i, d i)
