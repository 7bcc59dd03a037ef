use Rattle.std.proofs.Common.{◌≡◌}
use Rattle.format_terms.specs.Stl.{stl_line}
use Rattle.stl_text.proofs.reading.StlReader.read_line.Given as goal

-- the words that are left decide
abbrev pub invariant-loop-word : goal.invariant-loop-word
invariant-loop-word l = stl_line l.digits l.limits l.line l.fn.words l.initial.self ≡ stl_line l.digits l.limits l.line l.word-iterator l.self
