use Rattle.std.proofs.Common.{length}
use Rattle.inspection_laws.specs.Uses.{AreLeft}
use Rattle.self_cuts.proofs.uses.take_back.Given as goal

-- the uses at the places that are left
abbrev pub invariant-loop-place : goal.invariant-loop-place
invariant-loop-place l = AreLeft l.lows l.places l.uses (length l.initial.uses) l.place-index
