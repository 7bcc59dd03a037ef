use Rattle.std.proofs.Common.{◌++◌, ◌∷◌, [], List, ℕ, ap, sym, subst, ◌∙◌, append-nil, append_assoc}
use Rattle.std.specs.List.Sorted.{IsPermutation}
use Rattle.box_tree.specs.Touching.{touching_numbers}
use Rattle.plane_sheets.proofs.passing.find_all.Goals as goal

pub loop-number-init : goal.loop-number-init
loop-number-init c = rw (c.clear.ensures.items, c.into_iter-number-iterator.ensures.into_iter_gives) c.touching-number-items.ensures

pub loop-number-preserved : goal.loop-number-preserved
loop-number-preserved c =
    let near = c.loop-number.near.items in
    let number = c.in-Some.number in
    let rest : List ℕ = c.next.new.self in
    subst (IsPermutation (touching_numbers c.args.tree.now c.args.area))
    (ap (λ l. near ++ l) c.in-Some.ensures.steps ∙ sym (append_assoc near (number ∷ []) rest) ∙ sym (ap (λ l. l ++ rest) c.in_ok-push.ensures.items)) c.loop-number.invariant

pub returns : goal.returns
returns c =
    let near = c.loop-number.near.items in
    subst (IsPermutation (touching_numbers c.args.tree.now c.args.area)) (ap (λ l. near ++ l) c.in-None.ensures.steps.0 ∙ append-nil near) c.loop-number.invariant
