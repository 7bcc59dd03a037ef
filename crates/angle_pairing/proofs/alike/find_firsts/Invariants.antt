use Rattle.std.proofs.Common.{◌≡◌, length}
use Rattle.angle_pairing.proofs.Firsts.{AreFound}
use Rattle.angle_pairing.proofs.alike.find_firsts.Given as goal

-- the numbers so far
abbrev pub invariant-loop-number : goal.invariant-loop-number
invariant-loop-number l = record { all : length l.leads ≡ length l.initial.leads; found : AreFound l.pairs l.numbers l.number-index l.initial.firsts l.leads l.firsts }
