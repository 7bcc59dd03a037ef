use Rattle.std.proofs.Common.{length, arith}
use Rattle.ring_cutting.specs.Cuts.{is_allowed}
use Rattle.ring_cutting.proofs.Bent.{some_allowed}
use Rattle.ring_cutting.proofs.FirstPlaces.{passes, not_before}
use Rattle.ring_cutting.proofs.cutting.some_place_may_be_cut.Goals as goal

pub returns : goal.returns
returns c = λ r ringy four.
    let some = some_allowed r ringy four in
    let low = not_before (is_allowed r) (length r) some.place some.within some.allowed in
    passes (is_allowed r) (length r) (omega (arith, low, some.within))
