use Rattle.std.proofs.Common.{◌≡◌, ◌<◌, ◌+◌, length, slice_set, sym, subst, ◌∙◌, arith}
use Rattle.sheet_terms.specs.Vertices.{around_by}
use Rattle.angle_pairing.proofs.Labelling.{IsWalking, passed_all, passed_back, walking_done, walking_low, walking_more}
use Rattle.angle_pairing.proofs.labels.label_fan.Goals as goal

pub bounds-labels-at : goal.bounds-labels-at
bounds-labels-at c =
    let low = walking_low c.args.twins.now c.requires.twins c.args.half c.requires.half _ _ _ _ c.loop-turn.invariant in omega (arith, low, c.loop-turn.invariant.full)

pub bounds-twins-at : goal.bounds-twins-at
bounds-twins-at c = walking_low c.args.twins.now c.requires.twins c.args.half c.requires.half _ _ _ _ c.loop-turn.invariant

pub returns-then-at-half : goal.returns-then-at-half
returns-then-at-half c =
    let twins = c.args.twins.now in
    let h = c.args.half in
    let old = c.args.labels.now in
    let low = walking_low twins c.requires.twins h c.requires.half _ _ _ _ c.loop-turn.invariant in
    let labels = slice_set c.loop-turn.labels c.loop-turn.at h in
    let more = walking_more twins h old c.loop-turn.labels c.loop-turn.turn c.loop-turn.at c.loop-turn.invariant low in
    let step : c.next-at.result ≡ around_by twins c.loop-turn.at = c.next-at.ensures in
    let some : 0 < c.loop-turn.turn + 1 = omega arith in
    walking_done twins h old labels (c.loop-turn.turn + 1) (around_by twins c.loop-turn.at) more
    (passed_back twins h (c.loop-turn.turn + 1) some (sym more.at_is ∙ sym step ∙ c.if-at-half.true))

pub returns : goal.returns
returns c =
    let twins = c.args.twins.now in
    let end : c.loop-turn.turn ≡ length twins = omega (arith, c.loop-turn-test.false, c.loop-turn.auto.turn-end) in
    let all = subst (λ i. IsWalking twins c.args.half c.args.labels.now c.loop-turn.labels i c.loop-turn.at) end c.loop-turn.invariant in
    walking_done twins c.args.half c.args.labels.now c.loop-turn.labels (length twins) c.loop-turn.at all (passed_all twins c.requires.twins c.args.half c.requires.half)
