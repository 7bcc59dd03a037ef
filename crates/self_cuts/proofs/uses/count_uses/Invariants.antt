use Rattle.std.proofs.Common.{◌≡◌, ◌≤◌, length}
use Rattle.std.specs.Prelude.{count_by, nat_lt}
use Rattle.inspection_laws.specs.Uses.{AreUses}
use Rattle.self_cuts.proofs.uses.count_uses.Given as goal

-- the uses at the places so far
abbrev pub invariant-loop-place : goal.invariant-loop-place
invariant-loop-place l = record {
  uses : AreUses l.lows l.places l.uses (length l.initial.uses) l.place-index;
  value : l.count ≡ count_by (λ u. nat_lt 2 u) l.uses;
  few : l.count ≤ l.place-index;
}
