use Rattle.std.proofs.Common.{arith, ◌≡◌, ◌-ℤ◌, ◌<◌, ◌≤◌, ◌∷◌, ℕ, ℤ, List, length, ap, subst, ◌∙◌, to_z, of_z, w64}
use Rattle.std.specs.List.{All}
use Rattle.std.specs.List.Sorted.{IsPermutation}
use Rattle.std.proofs.lemmas.Int.{ints}
use Rattle.std.proofs.lemmas.List.Elements.{All-head, All-tail}
use Rattle.chain_terms.specs.Sums.{total}
use Rattle.mb_base.specs.declared.point.Box3.{Box3}
use Rattle.mesh_terms.specs.Limits.{most_triangles}
use Rattle.side_terms.specs.Sides.{face_at, face_boxes}
use Rattle.box_tree.specs.Touching.{touching_numbers}
use Rattle.winding.specs.Windings.{minus_shadows}
use Rattle.winding.proofs.Nearby.{near_below, near_few, near_total}
use Rattle.winding.proofs.Steps.{none_before, one_less, none_left}
use Rattle.winding.proofs.sum.minus_few_shadows.Goals as goal

pub loop-face-init : goal.loop-face-init
loop-face-init g c =
    let shadow = g.S.VertexFace.vertex_shadow c.args.shadows.now c.args.vertex.now in
    let faces = c.args.faces.now in
    let area = c.half_line.result in
    let near = c.into_iter-face-iterator.result in
    let found = subst (λ (boxes : List Box3). IsPermutation (touching_numbers boxes area) c.touching-face-items.result) c.tree.ensures.value c.touching-face-items.ensures in
    let moved : IsPermutation (touching_numbers (face_boxes faces) area) near = rw c.into_iter-face-iterator.ensures.into_iter_gives found in
    let few = near_few faces area near moved in
    record {
      value = none_before (total (λ f. shadow (face_at faces f)) near) _ (near_total faces area near moved shadow c.tree.ensures.side c.half_line.ensures);
      below = near_below faces area near moved;
      low = omega (arith, ints, few);
      high = omega (arith, ints, few);
      left = omega (arith, few);
    }

pub face-requires : goal.face-requires
face-requires g c =
    let inside : ℕ → Type 0 = λ f. f < length c.args.faces.now.triples in
    All-head inside c.in-Some.face c.next.new.self (subst (All inside) c.in-Some.ensures.steps c.loop-face.invariant.below)

pub overflow_sub-winding : goal.overflow_sub-winding
overflow_sub-winding g c =
    let few : length c.args.faces.now.triples ≤ most_triangles = c.tree.ensures.side.accepted.mesh.few_triples in
    let long : length c.loop-face.face-iterator ≡ length (c.in-Some.face ∷ c.next.new.self) = ap length c.in-Some.ensures.steps in
    omega (arith, ints, few, c.shadow-winding.ensures.size.0, c.shadow-winding.ensures.size.1, c.loop-face.invariant.low, c.loop-face.invariant.high, long)

pub loop-face-preserved : goal.loop-face-preserved
loop-face-preserved g c =
    let shadow = g.S.VertexFace.vertex_shadow c.args.shadows.now c.args.vertex.now in
    let faces = c.args.faces.now in
    let inside : ℕ → Type 0 = λ f. f < length faces.triples in
    let value : ℕ → ℤ = λ f. shadow (face_at faces f) in
    let rest : List ℕ = c.next.new.self in
    let winding = to_z w64 c.loop-face.winding-bits in
    let here : c.shadow-winding.result ≡ value c.in-Some.face = c.shadow-winding.ensures.value ∙ ap shadow c.face.ensures.value in
    let split = ap (total value) c.in-Some.ensures.steps in
    let long : length c.loop-face.face-iterator ≡ length (c.in-Some.face ∷ rest) = ap length c.in-Some.ensures.steps in
    let few : length faces.triples ≤ most_triangles = c.tree.ensures.side.accepted.mesh.few_triples in
    let low = c.shadow-winding.ensures.size.0 in
    let high = c.shadow-winding.ensures.size.1 in
    let before = c.loop-face.invariant.low in
    let after = c.loop-face.invariant.high in
    let whole : to_z w64 (of_z w64 (winding -ℤ to_z w64 (of_z w64 c.shadow-winding.result))) ≡ winding -ℤ c.shadow-winding.result =
    omega (arith, ints, few, low, high, before, after, long) in
    record {
      value = ap (λ w. w -ℤ total value rest) whole ∙ one_less winding c.shadow-winding.result (total value rest) (total value c.loop-face.face-iterator)
          (minus_shadows shadow faces) (omega (arith, ints, split, here)) c.loop-face.invariant.value;
      below = All-tail inside c.in-Some.face rest (subst (All inside) c.in-Some.ensures.steps c.loop-face.invariant.below);
      low = omega (arith, ints, whole, low, high, before, after, long);
      high = omega (arith, ints, whole, low, high, before, after, long);
      left = omega (arith, long, c.loop-face.invariant.left);
    }

pub returns-clause-value : goal.returns-clause-value
returns-clause-value g c =
    let shadow = g.S.VertexFace.vertex_shadow c.args.shadows.now c.args.vertex.now in
    let faces = c.args.faces.now in
    let value : ℕ → ℤ = λ f. shadow (face_at faces f) in
    none_left (to_z w64 c.loop-face.winding-bits) (total value c.loop-face.face-iterator) (minus_shadows shadow faces)
    (ap (total value) c.in-None.ensures.steps.0) c.loop-face.invariant.value
