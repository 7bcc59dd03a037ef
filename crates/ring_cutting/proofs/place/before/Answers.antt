use Rattle.std.proofs.Common.{◌<◌, ℕ, length, get_or, sym, ap, ◌∙◌, arith}
use Rattle.face_plane.specs.Rings.{vertex_before}
use Rattle.ring_cutting.specs.Placed.{vertices_of}
use Rattle.ring_cutting.proofs.Reading.{IsRead, read_as, before_first, before_other}
use Rattle.ring_cutting.proofs.place.before.Goals.{then-i-eq0, else-i-eq0}
use Rattle.ring_cutting.proofs.place.before.Goals as goal

found : (c : goal.After-index-places-at) → IsRead c.args.places.now (vertex_before (vertices_of c.args.places.now) c.args.i) c.index-places-at.result
found c =
    let ps = c.args.places.now in
    let i = c.args.i in
    let k = c.if-i-eq0.at in
    let x = c.index-places-at.result in
    let all : i < length ps = c.requires in
    elim c.if-i-eq0.branch as (λ _. IsRead ps (vertex_before (vertices_of ps) i) x) [
      | then-i-eq0 w ↦
          read_as ps k (vertex_before (vertices_of ps) i) x c.index-places-at.is (omega (arith, all, w.at-is, w.if-i-eq0.true))
          (ap (λ (j : ℕ). get_or (vertices_of ps) j 0) w.at-is ∙ before_first ps (omega (arith, all))
          ∙ ap (vertex_before (vertices_of ps)) (sym w.if-i-eq0.true))
      | else-i-eq0 w ↦
          read_as ps k (vertex_before (vertices_of ps) i) x c.index-places-at.is (omega (arith, all, w.at-is, w.if-i-eq0.false))
          (ap (λ (j : ℕ). get_or (vertices_of ps) j 0) w.at-is ∙ before_other ps i (omega (arith, w.if-i-eq0.false)) all)
    ]

pub returns-clause-vertex : goal.returns-clause-vertex
returns-clause-vertex c = (found c).vertex

pub returns-clause-at : goal.returns-clause-at
returns-clause-at c = (found c).at
