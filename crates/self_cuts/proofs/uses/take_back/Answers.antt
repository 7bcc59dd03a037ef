use Rattle.std.proofs.Common.{get_or, length, refl}
use Rattle.inspection_laws.proofs.Uses.{left_more}
use Rattle.self_cuts.proofs.uses.take_back.Goals as goal

pub loop-place-preserved : goal.loop-place-preserved
loop-place-preserved c =
    let lows = c.args.lows.now in
    let places = c.args.places.now in
    let i = c.loop-place.place-index in
    let k = get_or places i 0 in
    left_more lows places c.loop-place.uses (length c.args.uses.now) i (get_or lows k 0) c.loop-place-test.true refl
    (c.requires.lows k 0 (c.requires.places i 0 c.loop-place-test.true)) c.loop-place.invariant
