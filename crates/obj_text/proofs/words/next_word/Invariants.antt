use Rattle.std.proofs.Common.{◌≡◌, ◌<◌, length}
use Rattle.std.specs.Prelude.{IsTrue}
use Rattle.text_terms.specs.Lines.{begins_word}
use Rattle.obj_text.specs.Lines.{words_left}
use Rattle.obj_text.proofs.words.next_word.Given as goal

-- the words that are left stay the same, and the text begins with the next, if it has one
abbrev pub invariant-loop-text : goal.invariant-loop-text
invariant-loop-text l = record {
  words : words_left l.text l.later ≡ words_left l.part l.more;
  word : 0 < length l.text → IsTrue (begins_word l.text);
}

abbrev pub decreases-loop-text : goal.decreases-loop-text
decreases-loop-text l = length l.later
