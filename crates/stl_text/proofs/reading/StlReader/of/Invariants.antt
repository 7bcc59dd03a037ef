use Rattle.std.proofs.Common.{◌≡◌}
use Rattle.text_terms.specs.Lines.{without_mark, lines_of, numbered}
use Rattle.format_terms.specs.Stl.{nothing_gathered, stl_lines, word_lines}
use Rattle.stl_text.proofs.reading.StlReader.of.Given as goal

-- the lines that are left decide
abbrev pub invariant-loop-number : goal.invariant-loop-number
invariant-loop-number l =
    stl_lines l.digits l.limits (word_lines (numbered 1 (lines_of (without_mark l.bytes)))) nothing_gathered ≡ stl_lines l.digits l.limits (word_lines l.number-iterator) l.reading
