use Rattle.std.proofs.Common.{arith, ◌≡◌, ◌+ℤ◌, ◌<◌, ◌≤◌, ◌∷◌, ℕ, ℤ, List, length, ap, subst, sym, ◌∙◌, to_z, of_z, w64}
use Rattle.std.specs.List.{All}
use Rattle.std.specs.List.Sorted.{IsPermutation}
use Rattle.std.proofs.lemmas.Int.{ints}
use Rattle.std.proofs.lemmas.List.Elements.{All-head, All-tail}
use Rattle.chain_terms.specs.Sums.{total}
use Rattle.mb_base.specs.declared.point.Box3.{Box3}
use Rattle.mb_base.specs.declared.point.Corner.{Corner}
use Rattle.mesh_terms.specs.Limits.{most_triangles}
use Rattle.edge_face.specs.Crossings.{number_of}
use Rattle.side_terms.specs.Sides.{face_at, face_boxes}
use Rattle.box_tree.specs.Touching.{touching_numbers}
use Rattle.winding.specs.Lines.{HasShadowsIn}
use Rattle.winding.specs.Segments.{segment_total}
use Rattle.winding.proofs.Nearby.{near_below, near_few, near_total}
use Rattle.winding.proofs.Between.{all_to_come, crosses_near, none_to_come, one_taken}
use Rattle.winding.proofs.segments.crossings_between.Goals as goal

pub loop-face-init : goal.loop-face-init
loop-face-init g c =
    let test = g.C.EdgeFace.crossing_of c.args.pairs.now in
    let segment : List Corner = c.args.segment.now in
    let number : List Corner → ℤ = λ face. number_of (test segment face) in
    let faces = c.args.faces.now in
    let area = c.box_of.result in
    let near = c.into_iter-face-iterator.result in
    let found = subst (λ (boxes : List Box3). IsPermutation (touching_numbers boxes area) c.touching-face-items.result) c.tree.ensures.value c.touching-face-items.ensures in
    let moved : IsPermutation (touching_numbers (face_boxes faces) area) near = rw c.into_iter-face-iterator.ensures.into_iter_gives found in
    let none : HasShadowsIn area number = subst (λ (b : Box3). HasShadowsIn b number) (sym c.box_of.ensures.value)
    (crosses_near test (g.met.C.EdgeFace.apart c.args.pairs.now) segment c.told-segment c.requires) in
    let few = near_few faces area near moved in
    record {
      value = all_to_come (total (λ f. number (face_at faces f)) near) (segment_total test segment faces) (near_total faces area near moved number c.tree.ensures.side none);
      below = near_below faces area near moved;
      low = omega (arith, ints, few);
      high = omega (arith, ints, few);
    }

pub face-requires : goal.face-requires
face-requires g c =
    let inside : ℕ → Type 0 = λ f. f < length c.args.faces.now.triples in
    All-head inside c.in-Some.face c.next.new.self (subst (All inside) c.in-Some.ensures.steps c.loop-face.invariant.below)

pub loop-face-preserved : goal.loop-face-preserved
loop-face-preserved g c =
    let test = g.C.EdgeFace.crossing_of c.args.pairs.now in
    let segment : List Corner = c.args.segment.now in
    let faces = c.args.faces.now in
    let inside : ℕ → Type 0 = λ f. f < length faces.triples in
    let value : ℕ → ℤ = λ f. number_of (test segment (face_at faces f)) in
    let rest : List ℕ = c.next.new.self in
    let sum = to_z w64 c.loop-face.sum-bits in
    let number = c.number_of-sum.result in
    let here : number ≡ value c.in-Some.face = c.number_of-sum.ensures.value ∙ ap number_of c.crossing.ensures ∙ ap (λ face. number_of (test segment face)) c.face.ensures.value in
    let split = ap (total value) c.in-Some.ensures.steps in
    let long : length c.loop-face.face-iterator ≡ length (c.in-Some.face ∷ rest) = ap length c.in-Some.ensures.steps in
    let few : length faces.triples ≤ most_triangles = c.tree.ensures.side.accepted.mesh.few_triples in
    let size = c.number_of-sum.ensures.size in
    let before = c.loop-face.invariant.low in
    let after = c.loop-face.invariant.high in
    let whole : to_z w64 (of_z w64 (sum +ℤ to_z w64 (of_z w64 number))) ≡ sum +ℤ number = omega (arith, ints, few, size, before, after, long) in
    record {
      value = ap (λ w. w +ℤ total value rest) whole ∙ one_taken sum number (total value rest) (total value c.loop-face.face-iterator)
          (segment_total test segment faces) (omega (arith, ints, split, here)) c.loop-face.invariant.value;
      below = All-tail inside c.in-Some.face rest (subst (All inside) c.in-Some.ensures.steps c.loop-face.invariant.below);
      low = omega (arith, ints, whole, size, before, after, long);
      high = omega (arith, ints, whole, size, before, after, long);
    }

pub returns-clause-value : goal.returns-clause-value
returns-clause-value g c =
    let test = g.C.EdgeFace.crossing_of c.args.pairs.now in
    let segment : List Corner = c.args.segment.now in
    let faces = c.args.faces.now in
    let value : ℕ → ℤ = λ f. number_of (test segment (face_at faces f)) in
    none_to_come (to_z w64 c.loop-face.sum-bits) (total value c.loop-face.face-iterator) (segment_total test segment faces)
    (ap (total value) c.in-None.ensures.steps.0) c.loop-face.invariant.value
