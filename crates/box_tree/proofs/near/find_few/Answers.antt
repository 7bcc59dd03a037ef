use Rattle.std.proofs.Common.{◌≤◌, ◌++◌, ◌∷◌, [], List, ℕ, length, refl, ap, sym, subst, ◌∙◌, append-nil, append_assoc, arith}
use Rattle.std.specs.List.Sorted.{IsPermutation}
use Rattle.std.proofs.lemmas.List.{length-append}
use Rattle.std.proofs.lemmas.List.Sorted.{IsPermutation-trans, length_permutation}
use Rattle.box_tree.specs.Touching.{touching_numbers}
use Rattle.box_tree.proofs.NearNumbers.{sorted_numbers, touching_ascends}
use Rattle.box_tree.proofs.near.find_few.Goals as goal

pub loop-number-init : goal.loop-number-init
loop-number-init c = record {
  moved = rw (c.clear.ensures.items, c.into_iter-number-iterator.ensures.into_iter_gives) c.touching-number-items.ensures;
  few = omega (arith, ap length c.clear.ensures.items);
}

pub loop-number-preserved : goal.loop-number-preserved
loop-number-preserved c =
    let near = c.loop-number.near.items in
    let number = c.in-Some.number in
    let rest : List ℕ = c.next.new.self in
    record {
      moved = subst (IsPermutation (touching_numbers c.args.tree.now c.args.area))
          (ap (λ l. near ++ l) c.in-Some.ensures.steps ∙ sym (append_assoc near (number ∷ []) rest) ∙ sym (ap (λ l. l ++ rest) c.in_ok-push.ensures.items))
          c.loop-number.invariant.moved;
      few = omega (
        arith,
        c.loop-number.invariant.few,
        c.if-len-most.false,
        c.len.ensures,
        ap length c.in_ok-push.ensures.items,
        length-append near (number ∷ []),
      );
    }

-- where so many are listed and there is another they are too many
pub returns-then-len-most-clause-few : goal.returns-then-len-most-clause-few
returns-then-len-most-clause-few c =
    let near = c.loop-number.near.items in (
      λ no. cc,
      λ few. absurd (omega (
        arith,
        few,
        length_permutation _ _ c.loop-number.invariant.moved,
        length-append near c.loop-number.number-iterator,
        ap length c.in-Some.ensures.steps,
        c.if-len-most.true,
        c.len.ensures,
      )),
    )

-- all of them, in the order in which they were found
all_found : (c : goal.After-sort_unstable) → IsPermutation (touching_numbers c.args.tree.now c.args.area) c.loop-number.near.items
all_found c =
    subst (IsPermutation (touching_numbers c.args.tree.now c.args.area)) (ap (λ l. c.loop-number.near.items ++ l) c.in-None.ensures.steps.0 ∙ append-nil c.loop-number.near.items)
    c.loop-number.invariant.moved

pub returns-clause-few : goal.returns-clause-few
returns-clause-few c =
    let few : length (touching_numbers c.args.tree.now c.args.area) ≤ c.args.most =
    omega (arith, length_permutation _ _ (all_found c), c.loop-number.invariant.few) in
    (λ yes. few, λ l. refl)

pub returns-clause-list : goal.returns-clause-list
returns-clause-list c few =
    let numbers = touching_numbers c.args.tree.now c.args.area in
    let near = c.loop-number.near.items in
    sorted_numbers numbers c.sort_unstable.new.self.items (touching_ascends c.args.tree.now c.args.area)
    (IsPermutation-trans numbers near c.sort_unstable.new.self.items (all_found c) c.sort_unstable.ensures.permutation) c.sort_unstable.ensures.sorted
