use Rattle.std.proofs.Common.{[], ◌++◌, ◌∷◌, ◌==◌, ◌≡◌, ◌<◌, ◌^◌, ◌∙◌, ap, arith, cond, get_or, length, rules, sym}
use Rattle.plane_chains.proofs.FirstKeys.{place_bound}
use Rattle.plane_chains.proofs.LabelLists.{filled_firsts, filled_more, filled_places, filled_start}
use Rattle.plane_chains.proofs.local_labels.LocalLabels.each.Goals as goal
use Rattle.plane_chains.proofs.local_labels.LocalLabels.each.Goals.{else-is_new, then-is_new+in_ok-push}

pub loop-number-init : goal.loop-number-init
loop-number-init c =
    filled_start c.args.labels.now c.args.numbers.now c.new-seen.result.keys c.in_ok-of.of.items c.new-firsts.result.items (search rules) c.in_ok-of.ensures.items
    c.new-firsts.ensures.items

pub overflow_cast-label : goal.overflow_cast-label
overflow_cast-label c =
    let x = get_or c.args.labels.now (get_or c.args.numbers.now c.loop-number.number-index 0) 0 in
    let most = place_bound (λ j. x == j) c.loop-number.seen.keys in
    let low : c.in_ok-label.label < 2 ^ 32 = omega (arith, most, c.in_ok-label.ensures.index, c.loop-number.invariant.few, c.loop-number-test.true, c.requires.few) in
    search rules

pub loop-number-preserved : goal.loop-number-preserved
loop-number-preserved c =
    let number = get_or c.args.numbers.now c.loop-number.number-index 0 in
    let some = c.loop-number.firsts.items in
    filled_more c.args.labels.now c.args.numbers.now c.loop-number.number-index c.loop-number.seen.keys c.insert_full.new.self.keys c.loop-number.of.items
    c.push-in-loop-number.new.self.items some c.in_ok-label.label c.in_ok-label.is_new c.if-is_new.firsts.items c.loop-number-test.true c.loop-number.invariant
    c.in_ok-label.ensures.keys c.in_ok-label.ensures.index c.in_ok-push-2.ensures.items c.in_ok-label.ensures.added
    (elim c.if-is_new.branch as (λ _. c.if-is_new.firsts.items ≡ cond c.in_ok-label.is_new (some ++ number ∷ []) some) [
      | then-is_new+in_ok-push w ↦ ap (λ v. v.items) w.firsts-is ∙ w.in_ok-push.ensures.items ∙ ap (λ b. cond b (some ++ number ∷ []) some) (sym w.if-is_new.true)
      | else-is_new w ↦ ap (λ v. v.items) w.firsts-is ∙ ap (λ b. cond b (some ++ number ∷ []) some) (sym w.if-is_new.false)
    ])

pub returns-clause-of : goal.returns-clause-of
returns-clause-of c =
    filled_places c.args.labels.now c.args.numbers.now c.loop-number.number-index c.loop-number.seen.keys c.loop-number.of.items c.loop-number.firsts.items
    c.loop-number-test.false c.loop-number.invariant

pub returns-clause-firsts : goal.returns-clause-firsts
returns-clause-firsts c =
    filled_firsts c.args.labels.now c.args.numbers.now c.loop-number.number-index c.loop-number.seen.keys c.loop-number.of.items c.loop-number.firsts.items
    c.loop-number-test.false c.loop-number.invariant

pub returns-clause-below : goal.returns-clause-below
returns-clause-below c = c.loop-number.invariant.low (length c.args.labels.now) c.requires.below
