use Rattle.std.proofs.Common.{◌≡◌, ◌++◌, ℤ, List, [], length, map, ap, ◌∙◌}
use Rattle.std.specs.List.{flat_map}
use Rattle.mb_base.specs.declared.op.Op.{Op}
use Rattle.mb_base.specs.declared.point.Corner.{Corner}
use Rattle.mb_base.specs.declared.results.Hit.{Hit}
use Rattle.mb_base.specs.declared.results.Origin.TheVariants.{PEdge, PVertex, QEdge, QVertex}
use Rattle.side_terms.specs.Sides.{Side}
use Rattle.side_terms.specs.Lists.{Copy}
use Rattle.side_terms.specs.Points.{points_of}
use Rattle.side_terms.specs.Prescribed.{Prescription, Numbers, copies_of, hit_number_of, prescribed_hits, prescribed_vertices, p_hits, p_number, p_vertices, prescribed, q_hits, q_number, q_vertices}
use Rattle.retained_verts.specs.Handed.{numbers}
use Rattle.retained_verts.proofs.Growth.{in_order}
use Rattle.retained_verts.proofs.list.listed.Goals as goal

-- windings, corners and hits as they are read are those of sides and numbers
record AreRead (p q : Side) (n : Numbers) (pw qw : List ℤ) (pc qc : List Corner) (ph qh : List Hit) : Type 0 where
  w03 : pw ≡ n.w03
  w30 : qw ≡ n.w30
  p_corners : pc ≡ p.corners
  q_corners : qc ≡ q.corners
  x12 : ph ≡ n.x12
  x21 : qh ≡ n.x21

-- a field of all copies, from what the four steps added
all_added : {A : Type 0} (field : Copy → A) (op : Op) (p q : Side) (n : Numbers) (pw qw : List ℤ) (pc qc : List Corner) (ph qh : List Hit) →
    AreRead p q n pw qw pc qc ph qh → (a b c d e : List A) → a ≡ [] →
    b ≡ a ++ map field (flat_map copies_of (prescribed_vertices PVertex (p_number op) pw (points_of pc) (length pc))) →
    c ≡ b ++ map field (flat_map copies_of (prescribed_vertices QVertex (q_number op) qw (points_of qc) (length qc))) →
    d ≡ c ++ map field (flat_map copies_of (prescribed_hits PEdge (hit_number_of op) ph)) →
    e ≡ d ++ map field (flat_map copies_of (prescribed_hits QEdge (hit_number_of op) qh)) → e ≡ map field (prescribed op p q n)
all_added field op p q n pw qw pc qc ph qh read a b c d e none first second third fourth =
    let at_p : List ℤ → List Corner → List Prescription = λ ws cs. prescribed_vertices PVertex (p_number op) ws (points_of cs) (length cs) in
    let at_q : List ℤ → List Corner → List Prescription = λ ws cs. prescribed_vertices QVertex (q_number op) ws (points_of cs) (length cs) in
    let one : at_p pw pc ≡ p_vertices op p n = ap (λ ws. at_p ws pc) read.w03 ∙ ap (at_p n.w03) read.p_corners in
    let two : at_q qw qc ≡ q_vertices op q n = ap (λ ws. at_q ws qc) read.w30 ∙ ap (at_q n.w30) read.q_corners in
    let three : prescribed_hits PEdge (hit_number_of op) ph ≡ p_hits op n = ap (prescribed_hits PEdge (hit_number_of op)) read.x12 in
    let four : prescribed_hits QEdge (hit_number_of op) qh ≡ q_hits op n = ap (prescribed_hits QEdge (hit_number_of op)) read.x21 in
    in_order field (p_vertices op p n) (q_vertices op q n) (p_hits op n) (q_hits op n) a b c d e none
    (first ∙ ap (λ is. a ++ map field (flat_map copies_of is)) one)
    (second ∙ ap (λ is. b ++ map field (flat_map copies_of is)) two)
    (third ∙ ap (λ is. c ++ map field (flat_map copies_of is)) three)
    (fourth ∙ ap (λ is. d ++ map field (flat_map copies_of is)) four)

pub returns : goal.returns
returns c =
    let p = c.args.p.now in
    let q = c.args.q.now in
    let n = numbers c.args.windings.now c.args.hits.now in
    let read : AreRead p q n c.deref.result.now c.deref-2.result.now c.corners.result.now c.corners-2.result.now c.deref-3.result.now c.deref-4.result.now = record {
      w03 = c.deref.ensures.value;
      w30 = c.deref-2.ensures.value;
      p_corners = c.corners.ensures.value;
      q_corners = c.corners-2.ensures.value;
      x12 = c.deref-3.ensures.value;
      x21 = c.deref-4.ensures.value;
    } in
    record {
      origins = all_added (λ k. k.origin) c.args.op p q n _ _ _ _ _ _ read c.in_ok-copies.copies.origins.items c.push_vertices.new.self.origins.items
          c.push_vertices-2.new.self.origins.items c.push_hits.new.self.origins.items c.push_hits-2.new.self.origins.items
          c.in_ok-copies.ensures.origins c.in_ok-push_vertices.ensures.origins
          c.in_ok-push_vertices-2.ensures.origins c.in_ok-push_hits.ensures.origins c.in_ok-push_hits-2.ensures.origins;
      points = all_added (λ k. k.point) c.args.op p q n _ _ _ _ _ _ read c.in_ok-copies.copies.points.items c.push_vertices.new.self.points.items
          c.push_vertices-2.new.self.points.items c.push_hits.new.self.points.items c.push_hits-2.new.self.points.items
          c.in_ok-copies.ensures.points c.in_ok-push_vertices.ensures.points
          c.in_ok-push_vertices-2.ensures.points c.in_ok-push_hits.ensures.points c.in_ok-push_hits-2.ensures.points;
      kept = c.requires.counts.kept;
      crossings = c.requires.counts.crossings;
      halfedges = c.requires.counts.halfedges;
    }
