use Rattle.std.proofs.Common.{arith, false, ◌≡◌, ◌+ℤ◌, ◌<◌, ◌∷◌, ℕ, ℤ, List, length, ap, subst, ◌∙◌, pos, to_z, of_z, w64}
use Rattle.std.specs.List.{All}
use Rattle.std.specs.List.Sorted.{IsPermutation}
use Rattle.std.proofs.lemmas.Int.{ints}
use Rattle.std.proofs.lemmas.List.Elements.{All-head, All-tail}
use Rattle.chain_terms.specs.Sums.{total}
use Rattle.mb_base.specs.declared.point.Box3.{Box3}
use Rattle.box_tree.specs.Touching.{box_at, touches, touching_numbers}
use Rattle.outline_pair_terms.specs.Numbers.{edge_at, ends_of}
use Rattle.cross_section.specs.Sides.{edge_boxes}
use Rattle.cross_section.proofs.NearHits.{none_beyond}
use Rattle.cross_section.proofs.NearSums.{near_below, near_few, near_total, one_less}
use Rattle.cross_section.proofs.numbers.sums.change_along.Goals as goal

pub loop-number-init : goal.loop-number-init
loop-number-init g c =
    let change = g.T.EdgeTests.change_of c.args.tests.now c.args.way.now in
    let side = c.args.edges.now in
    let area = c.box_of.result in
    let near = c.into_iter-number-iterator.result in
    let found = subst (λ (boxes : List Box3). IsPermutation (touching_numbers boxes area) c.touching-number-items.result) c.tree.ensures.value c.touching-number-items.ensures in
    let moved : IsPermutation (touching_numbers (edge_boxes side) area) near = rw c.into_iter-number-iterator.ensures.into_iter_gives found in
    let few = near_few side area near moved in
    let none = none_beyond (pos 0) (g.T.EdgeTests.change_of c.args.tests.now) (g.met.T.EdgeTests.apart c.args.tests.now)
    side c.tree.ensures.side c.args.way.now c.told-way c.requires.fine c.requires.level in
    let whole = near_total side area near moved change (λ k low far. none k low (subst (λ b. touches (box_at (edge_boxes side) k) b ≡ false) c.box_of.ensures.value far)) in
    record {
      value = omega (arith, ints, whole);
      below = near_below side area near moved;
      low = omega (arith, ints, few);
      high = omega (arith, ints, few);
    }

pub edge-requires : goal.edge-requires
edge-requires g c =
    let inside : ℕ → Type 0 = λ k. k < length c.args.edges.now.edges in All-head inside c.in-Some.number
    c.next.new.self (subst (All inside) c.in-Some.ensures.steps c.loop-number.invariant.below)

pub loop-number-preserved : goal.loop-number-preserved
loop-number-preserved g c =
    let change = g.T.EdgeTests.change_of c.args.tests.now c.args.way.now in
    let side = c.args.edges.now in
    let inside : ℕ → Type 0 = λ k. k < length side.edges in
    let value : ℕ → ℤ = λ k. change (ends_of side (edge_at side k)) in
    let rest : List ℕ = c.next.new.self in
    let sum = to_z w64 c.loop-number.sum-bits in
    let part = c.change-sum.result in
    let here : part ≡ value c.in-Some.number = c.change-sum.ensures.value ∙ ap change c.edge.ensures.value in
    let split = ap (total value) c.in-Some.ensures.steps in
    let long : length c.loop-number.number-iterator ≡ length (c.in-Some.number ∷ rest) = ap length c.in-Some.ensures.steps in
    let few = c.tree.ensures.side.few in
    let low = c.change-sum.ensures.small.low in
    let high = c.change-sum.ensures.small.high in
    let before = c.loop-number.invariant.low in
    let after = c.loop-number.invariant.high in
    let whole : to_z w64 (of_z w64 (sum +ℤ to_z w64 (of_z w64 part))) ≡ sum +ℤ part = omega (arith, ints, few, low, high, before, after, long) in
    record {
      value = ap (λ w. w +ℤ total value rest) whole ∙ one_less sum part (total value rest) (total value c.loop-number.number-iterator)
          (total (λ e. change (ends_of side e)) side.edges) (omega (arith, ints, split, here)) c.loop-number.invariant.value;
      below = All-tail inside c.in-Some.number rest (subst (All inside) c.in-Some.ensures.steps c.loop-number.invariant.below);
      low = omega (arith, ints, whole, low, high, before, after, long);
      high = omega (arith, ints, whole, low, high, before, after, long);
    }
