use Rattle.std.proofs.Common.{◌≡◌, ◌≢◌, ◌<◌, ◌+◌, ℕ, length, get_or, sym, subst, ap, ◌∙◌, arith, Vec, Global}
use Rattle.std.proofs.lemmas.List.{get_or_default, with_items_is}
use Rattle.halfedge.specs.Numbering.{no_fan}
use Rattle.angle_pairing.specs.Labels.{IsLabelled}
use Rattle.angle_pairing.proofs.Labelling.{AreLed, led_all, led_more, led_same}
use Rattle.angle_pairing.proofs.labels.leaders.Goals as goal
use Rattle.angle_pairing.proofs.labels.leaders.Goals.{then-index, else-index}

pub loop-half-preserved : goal.loop-half-preserved
loop-half-preserved c =
    let twins = c.args.twins.now in
    let n = c.loop-half.half in
    let labels = c.loop-half.labels.items in
    let inv = c.loop-half.invariant in
    let low : n < length twins = omega (arith, c.loop-half-test.true, c.requires.few) in
    let few : length twins < no_fan = omega (arith, c.requires.few) in
    elim c.if-index.branch [
      | then-index w ↦
          let none : get_or labels n 0 ≡ no_fan =
          sym (get_or_default labels _ c.index.result.now 0 (omega (arith, low, inv.full))) ∙ sym c.index.ensures ∙ w.if-index.true in
          let labelled = subst (λ l. IsLabelled twins n l w.label_fan.new.labels) w.deref_mut.ensures.value w.label_fan.ensures in
          let full : length w.label_fan.new.labels ≡ c.loop-half.labels.len = labelled.full ∙ sym inv.full ∙ sym c.loop-half.labels.ok.0 in
          subst (λ l. AreLed twins l (n + 1)) (sym (ap (λ (v : Vec ℕ Global). v.items) w.labels-is ∙ with_items_is c.loop-half.labels w.label_fan.new.labels full))
          (led_more twins c.requires.twins labels n low few inv w.label_fan.new.labels none labelled)
      | else-index w ↦
          let some : get_or labels n 0 ≢ no_fan =
          λ none. w.if-index.false (c.index.ensures ∙ get_or_default labels _ c.index.result.now 0 (omega (arith, low, inv.full)) ∙ none) in
          subst (λ l. AreLed twins l (n + 1)) (sym (ap (λ (v : Vec ℕ Global). v.items) w.labels-is)) (led_same twins c.requires.twins labels n low few inv some)
    ]

pub returns : goal.returns
returns c =
    let twins = c.args.twins.now in
    led_all twins c.requires.twins c.loop-half.labels.items c.loop-half.half (omega (arith, c.loop-half-test.false, c.requires.few)) c.loop-half.invariant
