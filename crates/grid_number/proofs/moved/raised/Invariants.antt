use Rattle.std.proofs.Common.{◌≡◌, ◌*◌, ◌^◌}
use Rattle.grid_number.specs.Reading.{saturated}
use Rattle.grid_number.proofs.moved.raised.Given as goal

abbrev pub invariant-loop-place : goal.invariant-loop-place
invariant-loop-place l = l.size ≡ saturated (l.spelled * 10 ^ l._place)
