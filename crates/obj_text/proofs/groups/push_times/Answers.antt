use Rattle.std.proofs.Common.{◌≡◌, ℕ, ◌+◌, ◌++◌, [], ◌∷◌, List, length, replicate, sym, ap, ◌∙◌, arith, append-nil, length-append}
use Rattle.std.proofs.lemmas.List.{length-replicate}
use Rattle.obj_text.proofs.LabelSteps.{one_more}
use Rattle.obj_text.proofs.groups.push_times.Goals as goal

-- so many more
longer : (old new : List (List ℕ)) (label : List ℕ) (n : ℕ) → new ≡ old ++ replicate n label → length new ≡ length old + n
longer old new label n is = omega (arith, ap length is, length-append old (replicate n label), length-replicate {A = List ℕ} n label)

pub loop-init : goal.loop-init
loop-init c = sym (append-nil c.args.labels.now)

pub returns-in_err-push-clause-few : goal.returns-in_err-push-clause-few
returns-in_err-push-clause-few c =
    omega (arith, ap length c.in_err-push.ensures.kept, longer c.args.labels.now c.loop.labels c.args.label.now c.loop.counter c.loop.invariant, c.loop-test.true)

pub loop-preserved : goal.loop-preserved
loop-preserved c =
    c.in_ok-push.ensures.added
    ∙ ap (λ (ls : List (List ℕ)). ls ++ c.args.label.now ∷ []) c.loop.invariant
    ∙ one_more c.args.labels.now c.args.label.now c.loop.counter

pub returns-clause-added : goal.returns-clause-added
returns-clause-added c =
    let end : c.loop.counter ≡ c.args.times = omega (arith, c.loop-test.false, c.loop.auto.counter-end) in
    c.loop.invariant ∙ ap (λ (n : ℕ). c.args.labels.now ++ replicate n c.args.label.now) end

pub returns-clause-few : goal.returns-clause-few
returns-clause-few c = omega (arith, longer c.args.labels.now c.loop.labels c.args.label.now c.loop.counter c.loop.invariant, c.loop.auto.counter-end)
