use Rattle.std.proofs.Common.{◌≡◌, ◌++◌, map}
use Rattle.script_lang.proofs.operands.taken.Given as goal

-- the words so far and those that are left are all
abbrev pub invariant-loop-word : goal.invariant-loop-word
invariant-loop-word l = map (λ w. w.now) l.taken.items ++ l.word-iterator ≡ l.fn.words
