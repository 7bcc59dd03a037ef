use Rattle.std.proofs.Common.{◌≡◌, ℕ, ◌*◌, ◌^◌, min, arith, ap, ◌∙◌}
use Rattle.grid_number.specs.Reading.{saturated}
use Rattle.grid_number.proofs.Saturated.{saturated-place, saturated-raised}
use Rattle.grid_number.proofs.moved.raised.Goals as goal

pub loop-place-preserved : goal.loop-place-preserved
loop-place-preserved c = saturated-place c.args.spelled c.loop-place._place c.loop-place.size c.appended-size.result
    c.loop-place.invariant c.appended-size.ensures

pub returns : goal.returns
returns c =
    let end : c.loop-place._place ≡ min c.args.places 20 = omega
    (arith, c.loop-place.auto, c.loop-place-test.false, c.min-place-end.ensures) in
    saturated-raised c.args.spelled c.loop-place.size c.args.places
    (c.loop-place.invariant ∙ ap (λ (i : ℕ). saturated (c.args.spelled * 10 ^ i)) end)
