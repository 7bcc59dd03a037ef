use Rattle.std.proofs.Common.{◌≡◌, ◌+◌, ◌-◌, arith}
use Rattle.obj_text.proofs.ShortNumbers.{ends_kept, ends_dropped}
use Rattle.obj_text.proofs.decimals.size_with.Goals as goal

pub returns-then-places-gt0 : goal.returns-then-places-gt0
returns-then-places-gt0 c =
    let kept = c.leading_digits-kept.result.0 in
    let count = c.leading_digits-kept.result.1 in
    let all : count + (c.args.digits - count) ≡ c.args.digits = omega (arith, c.leading_digits-kept.ensures.most, c.from.ensures) in
    rw c.steps.ensures.value (ends_kept c.args.digits c.args.whole kept count (c.args.digits - count) c.args.text.now c.split_at.result.1.now
    c.leading_digits-kept.ensures.spelled c.split_at.ensures.back all)

pub returns : goal.returns
returns c =
    let count = c.leading_digits-kept.result.1 in
    let full : count ≡ c.args.digits = omega (arith, c.leading_digits-kept.ensures.most, c.from.ensures, c.if-places-gt0.false) in
    ends_dropped c.args.digits c.args.whole c.leading_digits-kept.result.0 count c.dropped-carry.result.0 c.args.text.now c.split_at.result.1.now
    c.dropped-carry.result.1.now c.leading_digits-kept.ensures.spelled c.split_at.ensures.back full c.dropped-carry.ensures.drops
