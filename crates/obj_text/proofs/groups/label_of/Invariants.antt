use Rattle.std.proofs.Common.{◌≡◌, ◌≤◌, ◌++◌, length, map, take}
use Rattle.mesh_terms.specs.Labels.{with_blanks}
use Rattle.format_terms.specs.ObjLabels.{label_byte}
use Rattle.obj_text.specs.Groups.{joined_on}
use Rattle.obj_text.proofs.groups.label_of.Given as goal

-- with the words that are left it is the label of all
abbrev pub invariant-loop-word : goal.invariant-loop-word
invariant-loop-word l = record {
  all : take 64 (l.label.items ++ joined_on l.first (map (map label_byte) l.word-iterator)) ≡ take 64 (with_blanks (map (map label_byte) l.fn.words));
  short : length l.label.items ≤ 64;
}
