use Rattle.std.proofs.Common.{◌≡◌, []}
use Rattle.format_terms.specs.Obj.{word_lines}
use Rattle.play_terms.specs.Scripts.{numbered_words, script_lines}
use Rattle.script_lang.proofs.reading.Reading.of.Given as goal

-- the lines that are left decide
abbrev pub invariant-loop-number : goal.invariant-loop-number
invariant-loop-number l = script_lines l.digits (numbered_words l.bytes) [] ≡ script_lines l.digits (word_lines l.number-iterator) l.reading
