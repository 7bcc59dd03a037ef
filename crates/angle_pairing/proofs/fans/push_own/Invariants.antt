use Rattle.std.proofs.Common.{◌≡◌, ◌++◌, ◌==◌, filter, get_or, take}
use Rattle.angle_pairing.proofs.fans.push_own.Given as goal

abbrev pub invariant-loop-half : goal.invariant-loop-half
invariant-loop-half l = l.firsts.items ≡ l.initial.firsts.items ++ filter (λ h. get_or l.leaders h 0 == h) (take l.half-index l.halves)
