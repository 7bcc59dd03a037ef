use Rattle.std.proofs.Common.{arith, ◌≡◌, ◌<◌, ◌∙◌, ℕ, List, length, map, sym, ap, subst}
use Rattle.std.specs.Prelude.{◌||◌}
use Rattle.std.specs.List.{All, list_any}
use Rattle.std.specs.List.Sorted.{IsPermutation}
use Rattle.std.proofs.lemmas.List.{get_or_default}
use Rattle.std.proofs.lemmas.List.Elements.{All-head, All-tail}
use Rattle.box_tree.specs.Touching.{touching_numbers}
use Rattle.mb_base.specs.declared.point.Box3.{Box3}
use Rattle.hole_joining.specs.Cones.{bars}
use Rattle.hole_joining.specs.Obstacles.{box_round, edge_box}
use Rattle.hole_joining.specs.Seen.{plane_at}
use Rattle.hole_joining.proofs.Barring.{edge_bars, near_any, near_below}
use Rattle.hole_joining.proofs.obstacles.EdgeTree.bar.Goals as goal

pub loop-number-init : goal.loop-number-init
loop-number-init c =
    let at = plane_at c.args.flat.now in
    let edges = c.args.self.now.edges.items in
    let s = c.args.segment.now in
    let near = c.into_iter-number-iterator.result in
    let around = box_round (at s.from.vertex) (at s.to.vertex) in
    let area : c.box_round-area.result ≡ around =
    c.box_round-area.ensures ∙ (λ j. box_round (c.requires.segment j).from.at (c.requires.segment j).to.at) in
    let found =
    subst (λ (boxes : List Box3). IsPermutation (touching_numbers boxes c.box_round-area.result) c.touching-number-items.result)
    c.requires.over c.touching-number-items.ensures in
    let there = subst (λ (b : Box3). IsPermutation (touching_numbers (map (edge_box at) edges) b) c.touching-number-items.result) area found in
    let moved : IsPermutation (touching_numbers (map (edge_box at) edges) around) near =
    rw c.into_iter-number-iterator.ensures.into_iter_gives there in
    record { below = near_below at edges s.from.vertex s.to.vertex near moved; value = near_any at edges s.from.vertex s.to.vertex near moved }

pub index-requires : goal.index-requires
index-requires c =
    let inside : ℕ → Type 0 = λ k. k < length c.args.self.now.edges.items in
    let low : c.in-Some.number < length c.args.self.now.edges.items =
    All-head inside c.in-Some.number c.next.new.self (subst (All inside) c.in-Some.ensures.steps c.loop-number.invariant.below) in
    omega (arith, low, c.args.self.now.edges.ok)

pub returns-then-edge_bars : goal.returns-then-edge_bars
returns-then-edge_bars c =
    let edges = c.args.self.now.edges.items in
    let s = c.args.segment.now in
    let test = edge_bars (plane_at c.args.flat.now) edges s.from.vertex s.to.vertex in
    let inside : ℕ → Type 0 = λ k. k < length edges in
    let left = subst (All inside) c.in-Some.ensures.steps c.loop-number.invariant.below in
    let low : c.in-Some.number < length edges = All-head inside c.in-Some.number c.next.new.self left in
    let told : test c.in-Some.number ≡ c.edge_bars.result =
    sym (c.edge_bars.ensures
    ∙ ap (bars (plane_at c.args.flat.now) s.from.vertex s.to.vertex)
    (c.index.ensures ∙ get_or_default edges c.in-Some.number c.index.result.now (0, 0) low)) in
    let rest = list_any test c.next.new.self in
    sym (ap (λ b. b || rest) (told ∙ c.if-edge_bars.true)) ∙ sym (ap (list_any test) c.in-Some.ensures.steps) ∙ c.loop-number.invariant.value

pub loop-number-preserved : goal.loop-number-preserved
loop-number-preserved c =
    let edges = c.args.self.now.edges.items in
    let s = c.args.segment.now in
    let test = edge_bars (plane_at c.args.flat.now) edges s.from.vertex s.to.vertex in
    let inside : ℕ → Type 0 = λ k. k < length edges in
    let left = subst (All inside) c.in-Some.ensures.steps c.loop-number.invariant.below in
    let low : c.in-Some.number < length edges = All-head inside c.in-Some.number c.next.new.self left in
    let told : test c.in-Some.number ≡ c.edge_bars.result =
    sym (c.edge_bars.ensures
    ∙ ap (bars (plane_at c.args.flat.now) s.from.vertex s.to.vertex)
    (c.index.ensures ∙ get_or_default edges c.in-Some.number c.index.result.now (0, 0) low)) in
    let rest = list_any test c.next.new.self in
    record {
      below = All-tail inside c.in-Some.number c.next.new.self left;
      value = sym (ap (λ b. b || rest) (told ∙ c.if-edge_bars.false)) ∙ sym (ap (list_any test) c.in-Some.ensures.steps)
          ∙ c.loop-number.invariant.value;
    }
