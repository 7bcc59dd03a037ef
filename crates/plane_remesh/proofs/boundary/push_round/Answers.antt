use Rattle.std.proofs.Common.{◌-◌, ◌<◌, ◌≡◌, ◌≤◌, ◌==◌, ◌∙◌, ap, arith, drop, false, get_or, length, sym, take}
use Rattle.std.proofs.lemmas.Bool.{eqb-false}
use Rattle.std.proofs.lemmas.List.{length-drop, length-take, take_rest}
use Rattle.plane_remesh.proofs.Rising.{on_ok, round_begun, round_done, round_more, round_none}
use Rattle.plane_remesh.proofs.boundary.push_round.Goals as goal

pub returns-then-is_empty : goal.returns-then-is_empty
returns-then-is_empty c = round_none c.args.turned c.args.out.now.items c.args.places.now (grind arith)

pub loop-to-init : goal.loop-to-init
loop-to-init c = round_begun c.args.turned c.args.out.now.items c.args.places.now

pub loop-to-preserved : goal.loop-to-preserved
loop-to-preserved c =
    let places = c.args.places.now in
    let k = c.loop-to.to-index in
    let low : k < length (drop 1 places) = omega (arith, length-drop 1 places, length-take (length places - 1) (drop 1 places), c.loop-to-test.true) in
    round_more c.args.turned c.args.out.now.items places k c.loop-to.from (get_or (take (length places - 1) (drop 1 places)) k 0) c.loop-to.out.items c.push_edge.new.out.items
    low (ap (λ xs. get_or xs k 0) (take_rest places 1)) c.loop-to.invariant c.in_ok-push_edge.ensures

pub returns : goal.returns
returns c =
    let places = c.args.places.now in
    let full : (length places == 0) ≡ false = sym c.is_empty.ensures ∙ c.if-is_empty.false in
    let some : 0 < length places = omega (arith, eqb-false (length places) 0 full) in
    let end : length (drop 1 places) ≤ c.loop-to.to-index = omega (arith, length-drop 1 places, length-take (length places - 1) (drop 1 places), c.loop-to-test.false) in
    on_ok c.push_edge-2.result
    (round_done c.args.turned c.args.out.now.items places c.loop-to.to-index c.loop-to.from c.loop-to.out.items c.push_edge-2.new.out.items some end c.loop-to.invariant)
    c.push_edge-2.ensures
