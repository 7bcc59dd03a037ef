use Rattle.std.proofs.Common.{◌≡◌, ℕ, ◌<◌, false}
use Rattle.sheet_terms.specs.Filled.{looks_right}
use Rattle.plane_filling.specs.Begun.{seen_in}
use Rattle.plane_filling.proofs.starts.hole_beginning.Given as goal

-- no place so far is one
abbrev pub invariant-loop-i : goal.invariant-loop-i
invariant-loop-i l = (k : ℕ) → k < l.i → looks_right (seen_in l.flat) l.walk k ≡ false
