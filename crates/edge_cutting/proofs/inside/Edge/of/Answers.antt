use Rattle.std.proofs.Common.{[], ap, subst, ◌≡◌, ◌∙◌}
use Rattle.std.proofs.lemmas.Bool.{false_from_ne_true}
use Rattle.std.proofs.lemmas.List.{get_or_read}
use Rattle.face_plane.specs.Planes.{point_at}
use Rattle.tidy_terms.specs.PointTriples.{same_point}
use Rattle.edge_cutting.specs.Spans.{LeadsTo}
use Rattle.edge_cutting.proofs.inside.Edge.of.Goals as goal

pub between-steps-requires : goal.between-steps-requires
between-steps-requires c =
    let points = c.args.points.now in
    let p : c.index-points-a.result ≡ point_at points c.args.a = get_or_read points c.args.a c.index-points-a.result c.requires.a c.index-points-a.is [] in
    let q : c.index-points-b.result ≡ point_at points c.args.b = get_or_read points c.args.b c.index-points-b.result c.requires.b c.index-points-b.is [] in
    ap (λ t. same_point t c.index-points-b.result) p ∙ ap (λ t. same_point (point_at points c.args.a) t) q
    ∙ false_from_ne_true (same_point (point_at points c.args.a) (point_at points c.args.b))
    (λ y. c.requires.edge (c.requires.apart.apart c.args.a c.args.b c.requires.a c.requires.b y))

pub returns-clause-stepped : goal.returns-clause-stepped
returns-clause-stepped c =
    let points = c.args.points.now in
    let p : c.index-points-a.result ≡ point_at points c.args.a = get_or_read points c.args.a c.index-points-a.result c.requires.a c.index-points-a.is [] in
    let q : c.index-points-b.result ≡ point_at points c.args.b = get_or_read points c.args.b c.index-points-b.result c.requires.b c.index-points-b.is [] in
    record {
      a_below = c.requires.a;
      b_below = c.requires.b;
      some = c.between-steps.ensures.some;
      leads = subst (λ t. LeadsTo (point_at points c.args.a) t c.between-steps.result) q
          (subst (λ t. LeadsTo t c.index-points-b.result c.between-steps.result) p c.between-steps.ensures.leads);
    }
