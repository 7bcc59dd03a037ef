use Rattle.std.proofs.Common.{◌≡◌, ◌++◌, map, take}
use Rattle.format_terms.specs.ObjLabels.{label_byte}
use Rattle.obj_text.proofs.groups.push_word.Given as goal

-- the bytes so far are added
abbrev pub invariant-loop-byte : goal.invariant-loop-byte
invariant-loop-byte l = l.label.items ≡ take 64 (l.initial.label.items ++ map label_byte (take l.byte-index l.word))
