use Rattle.std.proofs.Common.{◌+◌, ◌*◌, ◌<◌, ◌∙◌, drop, map, length, ap, refl, arith}
use Rattle.script_lang.specs.Polygons.{numbers_fault}
use Rattle.script_lang.proofs.RingWords.{pair_is, place_more, words_refused, words_taken}
use Rattle.script_lang.proofs.polygons.ring_of.Goals as goal

pub returns-in-Err-clause-fault : goal.returns-in-Err-clause-fault
returns-in-Err-clause-fault c =
    let n = 2 * c.loop-i.i + 1 in
    let inside : 2 * c.loop-i.i + 2 < length c.args.operands.now = omega (arith, c.loop-i-test.true) in
    let bad = words_refused c.args.digits c.args.operands.now n (2 * c.loop-i.i + 2) _ (omega arith) inside c.in-Err.kind c.in-Err.ensures.fault in
    rw c.bad.ensures (c.in-Err.kind, c.loop-i.invariant.left ∙ bad, refl)

pub loop-i-preserved : goal.loop-i-preserved
loop-i-preserved c =
    let k = c.args.digits in
    let ws = map (λ w. w.now) c.args.operands.now in
    let i = c.loop-i.i in
    let inside : 2 * i + 2 < length c.args.operands.now = omega (arith, c.loop-i-test.true) in
    let place = c.in-Ok.ensures.value ∙ pair_is k c.args.operands.now (2 * i + 1) (2 * i + 2) _ (omega arith) inside in
    let taken = words_taken k c.args.operands.now (2 * i + 1) (2 * i + 2) _ (omega arith) inside c.in-Ok.ensures.x c.in-Ok.ensures.y in
    record {
      places = c.in_ok-push-in-Ok.ensures.items ∙ place_more k ws i c.loop-i.points.items c.loop-i.invariant.places c.in-Ok.place place;
      left = c.loop-i.invariant.left ∙ taken ∙ ap (λ n. numbers_fault k (drop n ws)) (omega arith);
    }
