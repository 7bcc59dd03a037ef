use Rattle.std.proofs.Common.{◌≡◌, ◌+◌, ◌*◌, drop, map}
use Rattle.chain_terms.specs.Sums.{upto}
use Rattle.play_terms.specs.ScriptCommands.{pair_at}
use Rattle.script_lang.specs.Polygons.{numbers_fault}
use Rattle.script_lang.proofs.polygons.ring_of.Given as goal

-- the places so far, and the words that are left decide
abbrev pub invariant-loop-i : goal.invariant-loop-i
invariant-loop-i l = record {
  places : l.points.items ≡ map (λ j. pair_at l.digits (map (λ w. w.now) l.operands) (2 * j + 1)) (upto l.i);
  left : numbers_fault l.digits (drop 1 (map (λ w. w.now) l.operands)) ≡ numbers_fault l.digits (drop (2 * l.i + 1) (map (λ w. w.now) l.operands));
}
