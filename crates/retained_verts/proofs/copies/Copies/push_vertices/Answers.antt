use Rattle.std.proofs.Common.{◌≡◌, ◌+◌, [], pos, get_or, nat_abs, arith, ap, sym, ◌∙◌}
use Rattle.std.proofs.lemmas.List.{get_or-map}
use Rattle.side_terms.specs.Corners.{blank_corner}
use Rattle.side_terms.specs.Points.{point_of, points_of}
use Rattle.side_terms.specs.Prescribed.{Prescription, prescribed_vertices}
use Rattle.retained_verts.specs.Parts.{vertex_number, vertex_origin}
use Rattle.retained_verts.proofs.Fits.{kept_64}
use Rattle.retained_verts.proofs.Growth.{grown, vertices_more}
use Rattle.retained_verts.proofs.copies.Copies.push_vertices.Goals as goal

pub loop-vertex-preserved : goal.loop-vertex-preserved
loop-vertex-preserved c =
    let ws = c.args.windings.now in
    let ps = points_of c.args.corners.now in
    let v = c.loop-vertex.vertex in
    let origin = vertex_origin c.args.operand in
    let number = vertex_number c.args.op c.args.operand in
    let so_far = prescribed_vertices origin number ws ps v in
    let one : Prescription = record { origin = origin v; number = number (get_or ws v (pos 0)); point = get_or ps v [] } in
    let more = vertices_more origin number ws ps v in
    let times : c.unsigned_abs.result ≡ nat_abs (number (get_or ws v (pos 0))) =
    c.unsigned_abs.ensures.value ∙ ap nat_abs (kept_64 c.number-number.result (omega (arith, c.number-number.ensures.small)) ∙ c.number-number.ensures.value
    ∙ ap number (kept_64 (get_or ws v (pos 0)) (omega (arith, c.requires.small v (pos 0) (omega arith))))) in
    let at : c.point_of-point.result ≡ get_or ps v [] = c.point_of-point.ensures ∙ sym (get_or-map point_of c.args.corners.now v blank_corner [] (omega arith)) in
    record {
      origins = grown (λ k. k.origin) c.push.new.self.origins.items c.loop-vertex.self.origins.items c.args.self.now.origins.items so_far
          (prescribed_vertices origin number ws ps (v + 1)) one c.unsigned_abs.result c.vertex.result c.in_ok-push.ensures.origins c.loop-vertex.invariant.origins
          more times c.vertex.ensures;
      points = grown (λ k. k.point) c.push.new.self.points.items c.loop-vertex.self.points.items c.args.self.now.points.items so_far
          (prescribed_vertices origin number ws ps (v + 1)) one c.unsigned_abs.result c.point_of-point.result c.in_ok-push.ensures.points
          c.loop-vertex.invariant.points more times at;
    }
