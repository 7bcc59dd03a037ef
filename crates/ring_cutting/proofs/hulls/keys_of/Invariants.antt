use Rattle.std.proofs.Common.{◌≡◌, map}
use Rattle.chain_terms.specs.Sums.{upto}
use Rattle.ring_cutting.proofs.hulls.keys_of.Given as goal

-- the places so far
abbrev pub invariant-loop-i : goal.invariant-loop-i
invariant-loop-i l = map (λ k. k.1) l.keys.items ≡ upto l.i
