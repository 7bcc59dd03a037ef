use Rattle.std.proofs.Common.{◌≡◌, ◌^◌, ℕ, length, arith, ap, sym, subst, ◌∙◌}
use Rattle.std.specs.List.{All}
use Rattle.std.proofs.lemmas.List.{length-map}
use Rattle.side_terms.specs.Corners.{AllFine}
use Rattle.side_terms.specs.Sides.{Side, corners_of, face_boxes, side_of}
use Rattle.mesh_terms.specs.Meshes.{IsBelow, triple_of, triples_of}
use Rattle.lean.specs.Grid.{boxes_on}
use Rattle.lean.specs.Vectors.{AllSmall}
use Rattle.lean.proofs.GridBoxes.{boxes_of_faces, small_points}
use Rattle.lean.proofs.side.Side.of.Goals as goal

pub tree_over-requires-clause-below : goal.tree_over-requires-clause-below
tree_over-requires-clause-below c =
    let mesh = c.args.mesh.now in
    let ts = triples_of c.triples.result.now in
    let listed : ts ≡ mesh.triples = c.triples.ensures.value ∙ ap (λ (s : Side). s.triples) c.in_ok-surface.ensures in
    let below : All (IsBelow (length mesh.points)) ts = subst (All (IsBelow (length mesh.points))) (sym listed) c.points.ensures.accepted.mesh.below in
    subst (λ (n : ℕ). All (IsBelow n) ts) (sym (ap length c.points.ensures.value)) below

pub tree_over-requires-clause-grid : goal.tree_over-requires-clause-grid
tree_over-requires-clause-grid c =
    let mesh = c.args.mesh.now in
    let ups = c.deref.result.now in
    let long : length ups ≡ length mesh.points = ap length c.deref.ensures.value ∙ c.requires in
    let fine : AllFine (corners_of mesh.points ups) = subst AllFine (ap (λ (s : Side). s.corners) c.in_ok-surface.ensures) c.triples.ensures.side.fine in
    subst (AllSmall (2 ^ 30)) (sym c.points.ensures.value) (small_points mesh.points ups long fine)

pub tree_over-requires-clause-few : goal.tree_over-requires-clause-few
tree_over-requires-clause-few c =
    let xs = c.triples.result.now in
    let listed = c.triples.ensures.value ∙ ap (λ (s : Side). s.triples) c.in_ok-surface.ensures in
    omega (arith, length-map xs triple_of, ap length listed, c.points.ensures.accepted.mesh.few_triples)

pub invariant_of-result : goal.invariant_of-result
invariant_of-result c =
    let mesh = c.args.mesh.now in
    let ups = c.deref.result.now in
    let listed : triples_of c.triples.result.now ≡ mesh.triples = c.triples.ensures.value ∙ ap (λ (s : Side). s.triples) c.in_ok-surface.ensures in
    let long : length ups ≡ length mesh.points = ap length c.deref.ensures.value ∙ c.requires in
    let made : c.in_ok-surface.surface ≡ side_of mesh ups = c.in_ok-surface.ensures in
    record {
      known = c.triples.ensures.side;
      over = c.in_ok-tree.ensures ∙ ap (λ points. boxes_on points (triples_of c.triples.result.now)) c.points.ensures.value ∙ ap (boxes_on mesh.points) listed
          ∙ sym (boxes_of_faces mesh.points ups mesh.triples long c.points.ensures.accepted.mesh.below) ∙ ap face_boxes (sym made);
    }
