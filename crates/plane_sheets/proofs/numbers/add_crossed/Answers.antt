use Rattle.std.proofs.Common.{◌+◌, ◌+ℤ◌, ◌*ℤ◌, refl, sym, subst}
use Rattle.plane_sheets.specs.Crossed.{times}
use Rattle.plane_sheets.specs.Sides.{HasSums, lefts, listed, rights, size_of}
use Rattle.plane_sheets.proofs.Adding.{times_less}
use Rattle.plane_sheets.proofs.Held.{sums_more, sums_stay}
use Rattle.plane_sheets.proofs.Outcomes.{on_ok}
use Rattle.plane_sheets.proofs.numbers.add_crossed.Goals as goal

pub returns-in-No-clause-left : goal.returns-in-No-clause-left
returns-in-No-clause-left c nets f w one s =
    let ns = c.args.numbers.now in
    subst (λ p. HasSums nets (λ k. f k +ℤ listed ns k *ℤ times p) (w + size_of ns) (lefts c.args.sides.now.items)) (sym c.in-No.is)
    (sums_stay nets f w ns (lefts c.args.sides.now.items) s)

pub returns-in_default-clause-left : goal.returns-in_default-clause-left
returns-in_default-clause-left c =
    let ns = c.args.numbers.now in
    let t = times c.args.passes in
    on_ok c.add_all.result _ _
    (λ e nets f w one s. subst (HasSums nets (λ k. f k +ℤ listed ns k *ℤ t) (w + size_of ns)) (sym e)
    (sums_more nets f (λ k. f k +ℤ listed ns k *ℤ t) w t ns (lefts c.args.sides.now.items) (times_less c.args.passes) one s (λ k. refl))) c.add_all.ensures.left

pub returns-in-No-clause-right : goal.returns-in-No-clause-right
returns-in-No-clause-right c nets f w one s =
    let ns = c.args.numbers.now in
    subst (λ p. HasSums nets (λ k. f k +ℤ listed ns k *ℤ times p) (w + size_of ns) (rights c.args.sides.now.items)) (sym c.in-No.is)
    (sums_stay nets f w ns (rights c.args.sides.now.items) s)

pub returns-in_default-clause-right : goal.returns-in_default-clause-right
returns-in_default-clause-right c =
    let ns = c.args.numbers.now in
    let t = times c.args.passes in
    on_ok c.add_all.result _ _
    (λ e nets f w one s. subst (HasSums nets (λ k. f k +ℤ listed ns k *ℤ t) (w + size_of ns)) (sym e)
    (sums_more nets f (λ k. f k +ℤ listed ns k *ℤ t) w t ns (rights c.args.sides.now.items) (times_less c.args.passes) one s (λ k. refl))) c.add_all.ensures.right
