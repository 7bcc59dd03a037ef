use Rattle.std.proofs.Common.{◌≡◌, ◌∷◌, ◌+◌, ◌≤◌, length}
use Rattle.text_terms.specs.Lines.{lines_of}
use Rattle.obj_text.specs.Lines.{lines_past}
use Rattle.obj_text.proofs.lines.past_line.Given as goal

-- what comes after the present line comes after the first, and there are no more lines than bytes
abbrev pub invariant-loop-after : goal.invariant-loop-after
invariant-loop-after l = record {
  past : lines_past l.number (l.line ∷ lines_of l.after) ≡ lines_past l.initial.number (l.initial.line ∷ lines_of l.initial.after);
  few : l.number + length l.after ≤ l.initial.number + length l.initial.after;
}

abbrev pub decreases-loop-after : goal.decreases-loop-after
decreases-loop-after l = length l.after
