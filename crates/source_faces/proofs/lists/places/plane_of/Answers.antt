use Rattle.std.proofs.Common.{◌≡◌, ℕ, ◌<◌, List, [], length, get_or, arith, ap, sym, ◌∙◌}
use Rattle.std.proofs.lemmas.List.{get_or-map, length-map}
use Rattle.face_plane.specs.Planes.{plane_drop}
use Rattle.lean.proofs.Triangles.{face_below}
use Rattle.mesh_terms.specs.Meshes.{Triple, triple_of, triples_of}
use Rattle.source_face_terms.specs.Segments.{vertex_point}
use Rattle.source_faces.proofs.lists.places.plane_of.Goals as goal

pub vertex_point-requires : goal.vertex_point-requires
vertex_point-requires c =
    let side = c.args.side.now in
    (face_below (length side.corners) side.triples c.triples.result.now c.args.face c.triples.ensures.value
    c.triples.ensures.side.accepted.mesh.below c.requires).a

pub vertex_point-requires-2 : goal.vertex_point-requires-2
vertex_point-requires-2 c =
    let side = c.args.side.now in
    (face_below (length side.corners) side.triples c.triples.result.now c.args.face c.triples.ensures.value
    c.triples.ensures.side.accepted.mesh.below c.requires).b

pub vertex_point-requires-3 : goal.vertex_point-requires-3
vertex_point-requires-3 c =
    let side = c.args.side.now in
    (face_below (length side.corners) side.triples c.triples.result.now c.args.face c.triples.ensures.value
    c.triples.ensures.side.accepted.mesh.below c.requires).c

-- a triangle as the code holds it
at_face : (ts : List Triple) (xs : List (List ℕ)) (f : ℕ) → triples_of xs ≡ ts → f < length ts → triple_of (get_or xs f []) ≡ get_or ts f (0, 0, 0)
at_face ts xs f e l =
    sym (get_or-map triple_of xs f [] (0, 0, 0) (omega (arith, l, ap length e, length-map xs triple_of))) ∙ ap (λ us. get_or us f (0, 0, 0)) e

pub returns-clause-axis : goal.returns-clause-axis
returns-clause-axis c =
    let side = c.args.side.now in
    let same = at_face side.triples c.triples.result.now c.args.face c.triples.ensures.value c.requires in
    c.of.ensures.axis ∙ ap (λ a. plane_drop a c.vertex_point-2.result c.vertex_point-3.result) c.vertex_point.ensures
    ∙ ap (λ b. plane_drop (vertex_point side (get_or (get_or c.triples.result.now c.args.face []) 0 0)) b c.vertex_point-3.result)
    c.vertex_point-2.ensures
    ∙ ap (λ d. plane_drop (vertex_point side (get_or (get_or c.triples.result.now c.args.face []) 0 0))
    (vertex_point side (get_or (get_or c.triples.result.now c.args.face []) 1 0)) d) c.vertex_point-3.ensures
    ∙ ap (λ (t : Triple). plane_drop (vertex_point side t.0) (vertex_point side t.1) (vertex_point side t.2)) same
