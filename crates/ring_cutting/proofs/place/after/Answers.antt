use Rattle.std.proofs.Common.{◌<◌, ℕ, length, get_or, ap, ◌∙◌, arith}
use Rattle.face_plane.specs.Rings.{vertex_after}
use Rattle.ring_cutting.specs.Placed.{vertices_of}
use Rattle.ring_cutting.proofs.Reading.{IsRead, read_as, after_last, after_other}
use Rattle.ring_cutting.proofs.place.after.Goals.{then-i-places, else-i-places}
use Rattle.ring_cutting.proofs.place.after.Goals as goal

found : (c : goal.After-index-places-at) → IsRead c.args.places.now (vertex_after (vertices_of c.args.places.now) c.args.i) c.index-places-at.result
found c =
    let ps = c.args.places.now in
    let i = c.args.i in
    let k = c.if-i-places.at in
    let x = c.index-places-at.result in
    let all : i < length ps = c.requires in
    elim c.if-i-places.branch as (λ _. IsRead ps (vertex_after (vertices_of ps) i) x) [
      | then-i-places w ↦
          read_as ps k (vertex_after (vertices_of ps) i) x c.index-places-at.is (omega (arith, all, w.at-is))
          (ap (λ (j : ℕ). get_or (vertices_of ps) j 0) w.at-is ∙ after_last ps i (omega (arith, w.if-i-places.true)))
      | else-i-places w ↦
          read_as ps k (vertex_after (vertices_of ps) i) x c.index-places-at.is (omega (arith, all, w.at-is, w.if-i-places.false))
          (ap (λ (j : ℕ). get_or (vertices_of ps) j 0) w.at-is ∙ after_other ps i (omega (arith, all, w.if-i-places.false)))
    ]

pub returns-clause-vertex : goal.returns-clause-vertex
returns-clause-vertex c = (found c).vertex

pub returns-clause-at : goal.returns-clause-at
returns-clause-at c = (found c).at
