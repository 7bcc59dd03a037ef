use Rattle.std.proofs.Common.{rules, arith, ◌≡◌, ◌≢◌, pos, FitsSigned, ◌∙◌}
use Rattle.std.proofs.lemmas.Int.{ints}
use Rattle.std.specs.Int.{w8}
use Rattle.shadow_kernels.proofs.Steps.{none_of_tally, some_of_tally}
use Rattle.shadow_kernels.proofs.Values.{seen}
use Rattle.shadow_kernels.proofs.tests.face_meet.Goals as goal

pub returns-then-count-eq0 : goal.returns-then-count-eq0
returns-then-count-eq0 g c =
    let fits : FitsSigned w8 c.count-count.result = search rules in
    let zero : c.count-count.result ≡ pos 0 = omega (arith, ints) in
    none_of_tally _ _ _ c.face_tally-tally.result c.face_tally-tally.ensures.tally (omega (arith, ints, zero, c.count-count.ensures))

pub returns : goal.returns
returns g c =
    let fits : FitsSigned w8 c.count-count.result = search rules in
    let kept : seen w8 c.count-count.result ≡ c.count-count.result = omega (arith, ints) in
    let other : c.count-count.result ≢ pos 0 = λ z. omega (arith, ints) in
    let some : c.face_tally-tally.result.count ≢ pos 0 = λ z. other (c.count-count.ensures ∙ z) in
    some_of_tally _ _ _ c.face_tally-tally.result (seen w8 c.count-count.result) c.is_over_face_at-above.result c.spot-spot.result
    c.face_tally-tally.ensures.tally some (kept ∙ c.count-count.ensures) c.spot-spot.ensures c.is_over_face_at-above.ensures
