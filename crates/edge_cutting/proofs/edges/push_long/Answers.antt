use Rattle.std.proofs.Common.{◌≡◌, [], ◌∷◌, ◌++◌, map, arith, ap, subst, sym, ◌∙◌}
use Rattle.std.proofs.lemmas.List.{get_or_read, map-append}
use Rattle.face_plane.specs.Planes.{point_at}
use Rattle.edge_cutting.specs.Edges.{AreLong, pair_of}
use Rattle.edge_cutting.specs.Spans.{IsCommonStep}
use Rattle.edge_cutting.proofs.LongEdges.{long_more, long_same, none_inside}
use Rattle.edge_cutting.proofs.edges.push_long.Goals as goal
use Rattle.edge_cutting.proofs.edges.push_long.Goals.{else-a-b-via-then-a-b+else-common_step-unit, else-a-b-via-else-a-b}

pub returns-in_ok-push : goal.returns-in_ok-push
returns-in_ok-push c = λ seen h.
    let old = map pair_of c.args.edges.now.items in
    let e : map pair_of c.push.new.self.items ≡ old ++ (c.args.a, c.args.b) ∷ [] =
    ap (map pair_of) c.in_ok-push.ensures.items ∙ map-append pair_of c.args.edges.now.items ((c.args.a ∷ c.args.b ∷ []) ∷ []) in
    subst (λ l. AreLong c.args.points.now (seen ++ (c.args.a, c.args.b) ∷ []) l) (sym e)
    (long_more c.args.points.now seen old (c.args.a, c.args.b) (record { up = c.if-a-b.true; below = c.requires.b }) h)

pub returns-else-a-b : goal.returns-else-a-b
returns-else-a-b c = λ seen h.
    let points = c.args.points.now in
    let a = c.args.a in
    let b = c.args.b in
    long_same points seen (map pair_of c.args.edges.now.items) (a, b) (elim c.else-a-b.branch [
      | else-a-b-via-then-a-b+else-common_step-unit w ↦ λ up.
          let p : w.index-points-a.result ≡ point_at points a = get_or_read points a w.index-points-a.result c.requires.a w.index-points-a.is [] in
          let q : w.index-points-b.result ≡ point_at points b = get_or_read points b w.index-points-b.result c.requires.b w.index-points-b.is [] in
          let g = w.common_step.result in
          let common : IsCommonStep (point_at points a) (point_at points b) g =
          subst (λ t. IsCommonStep (point_at points a) t g) q (subst (λ t. IsCommonStep t w.index-points-b.result g) p w.common_step.ensures.common) in
          none_inside points c.args.unit a b g c.requires.apart c.requires.unit c.requires.a c.requires.b (λ e. omega (arith, e, up)) common
          (omega (arith, w.if-common_step-unit.false))
      | else-a-b-via-else-a-b w ↦ λ up. absurd (omega (arith, up, w.if-a-b.false))
    ]) h
