use Rattle.std.proofs.Common.{◌≡◌, ℕ, ◌<◌, ℤ, pos, List, [], ◌∷◌, Bool, true, false, ◌&&◌, get_or, length, refl, ap, sym, ◌∙◌}
use Rattle.std.specs.Ordering.{int_eq}
use Rattle.std.specs.Cmp.Lexicographic.{pointwise}
use Rattle.std.proofs.lemmas.List.{get_or-map}
use Rattle.side_terms.specs.Points.{point_of}
use Rattle.mesh_terms.specs.Meshes.{IsBelow}
use Rattle.mesh_terms.specs.Points.{coordinate_of, cross_product}
use Rattle.side_terms.specs.Corners.{blank_corner, corner_at}
use Rattle.side_terms.specs.Sides.{Side}
use Rattle.source_face_terms.specs.Segments.{vertex_point}
use Rattle.source_faces.proofs.plain.is_flat.Goals as goal

-- the coordinates of a product are 0, one after the other
all_zero : (a b c : List ℤ) →
    (let n = cross_product a b c in
    pointwise int_eq n (pos 0 ∷ pos 0 ∷ pos 0 ∷ []) ≡ int_eq (coordinate_of n 0) (pos 0) && int_eq (coordinate_of n 1) (pos 0)
    && int_eq (coordinate_of n 2) (pos 0))
all_zero a b c =
    let n = cross_product a b c in by (int_eq (coordinate_of n 0) (pos 0)) (int_eq (coordinate_of n 1) (pos 0)) (int_eq (coordinate_of n 2) (pos 0))
  where
    by : (a b c : Bool) → (a && (b && (c && true))) ≡ a && b && c
    by true true true = refl
    by true true false = refl
    by true false c = refl
    by false b c = refl

-- a vertex of a side lies where its corner does
at_vertex : (side : Side) (v : ℕ) → v < length side.corners → point_of (corner_at side.corners v) ≡ vertex_point side v
at_vertex side v below = sym (get_or-map point_of side.corners v blank_corner [] below)

pub returns : goal.returns
returns c =
    let side = c.args.side.now in
    let t = get_or side.triples c.args.face (0, 0, 0) in
    let below : IsBelow (length side.corners) t = c.requires.side.accepted.mesh.below c.args.face (0, 0, 0) c.requires.face in
    let face = c.face.ensures.value in
    let a : c.point_of.result ≡ vertex_point side t.0 =
    c.point_of.ensures ∙ ap (λ l. point_of (get_or l 0 blank_corner)) face ∙ at_vertex side t.0 below.a in
    let b : c.point_of-2.result ≡ vertex_point side t.1 =
    c.point_of-2.ensures ∙ ap (λ l. point_of (get_or l 1 blank_corner)) face ∙ at_vertex side t.1 below.b in
    let d : c.point_of-3.result ≡ vertex_point side t.2 =
    c.point_of-3.ensures ∙ ap (λ l. point_of (get_or l 2 blank_corner)) face ∙ at_vertex side t.2 below.c in
    let n =
    c.cross.ensures.value ∙ ap (λ x. cross_product x c.point_of-2.result c.point_of-3.result) a
    ∙ ap (λ x. cross_product (vertex_point side t.0) x c.point_of-3.result) b
    ∙ ap (cross_product (vertex_point side t.0) (vertex_point side t.1)) d in
    c.eq.ensures ∙ ap (λ l. pointwise int_eq l (pos 0 ∷ pos 0 ∷ pos 0 ∷ [])) n
    ∙ all_zero (vertex_point side t.0) (vertex_point side t.1) (vertex_point side t.2)
