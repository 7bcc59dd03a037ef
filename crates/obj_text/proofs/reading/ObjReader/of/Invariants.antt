use Rattle.std.proofs.Common.{◌≡◌, length}
use Rattle.text_terms.specs.Lines.{joined_lines}
use Rattle.format_terms.specs.Obj.{nothing_gathered, obj_lines, word_lines}
use Rattle.obj_text.proofs.reading.ObjReader.of.Given as goal

-- the lines that are left decide
abbrev pub invariant-loop-reading : goal.invariant-loop-reading
invariant-loop-reading l =
    obj_lines l.digits l.limits (word_lines (joined_lines l.text)) nothing_gathered ≡ obj_lines l.digits l.limits l.lines l.reading.gathered

abbrev pub decreases-loop-reading : goal.decreases-loop-reading
decreases-loop-reading l = length l.lines
