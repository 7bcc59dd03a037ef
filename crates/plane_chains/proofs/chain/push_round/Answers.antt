use Rattle.std.proofs.Common.{◌-◌, ◌<◌, ◌≡◌, ◌≤◌, ◌==◌, ◌∙◌, ap, arith, drop, false, get_or, length, sym, take}
use Rattle.std.proofs.lemmas.Bool.{eqb-false}
use Rattle.std.proofs.lemmas.List.{length-drop, length-take, take_rest}
use Rattle.plane_chains.proofs.EdgeBoxLists.{on_ok}
use Rattle.plane_chains.proofs.WayLists.{round_begun, round_done, round_more, round_none}
use Rattle.plane_chains.proofs.chain.push_round.Goals as goal

pub returns-then-is_empty-clause-ways : goal.returns-then-is_empty-clause-ways
returns-then-is_empty-clause-ways c = round_none c.args.ways.now.items c.args.rim.now c.args.label (grind arith)

pub loop-to-init : goal.loop-to-init
loop-to-init c = round_begun c.args.ways.now.items c.args.rim.now c.args.label c.requires

pub loop-to-preserved : goal.loop-to-preserved
loop-to-preserved c =
    let rim = c.args.rim.now in
    let k = c.loop-to.to-index in
    let low : k < length (drop 1 rim) = omega (arith, length-drop 1 rim, length-take (length rim - 1) (drop 1 rim), c.loop-to-test.true) in
    round_more c.args.ways.now.items rim c.args.label k c.loop-to.from (get_or (take (length rim - 1) (drop 1 rim)) k 0) c.loop-to.ways.items c.push_way.new.ways.items low
    (ap (λ xs. get_or xs k 0) (take_rest rim 1)) c.loop-to.invariant c.in_ok-push_way.ensures.ways c.in_ok-push_way.ensures.few

pub returns-clause-ways : goal.returns-clause-ways
returns-clause-ways c =
    let rim = c.args.rim.now in
    let full : (length rim == 0) ≡ false = sym c.is_empty.ensures ∙ c.if-is_empty.false in
    let some : 0 < length rim = omega (arith, eqb-false (length rim) 0 full) in
    let end : length (drop 1 rim) ≤ c.loop-to.to-index = omega (arith, length-drop 1 rim, length-take (length rim - 1) (drop 1 rim), c.loop-to-test.false) in
    on_ok c.push_way-2.result
    (round_done c.args.ways.now.items rim c.args.label c.loop-to.to-index c.loop-to.from c.loop-to.ways.items c.push_way-2.new.ways.items some end c.loop-to.invariant)
    c.push_way-2.ensures.ways
