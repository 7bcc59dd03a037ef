use Rattle.std.proofs.Common.{◌≡◌, ◌≤◌, ◌++◌, ◌∷◌, [], false, ℕ, List, length, map, take, sym, ap, ◌∙◌, arith, length-take}
use Rattle.format_terms.specs.ObjLabels.{label_byte, without_blank}
use Rattle.obj_text.specs.Groups.{joined_on, put_behind}
use Rattle.obj_text.proofs.LabelSteps.{one_word, no_word}
use Rattle.obj_text.proofs.groups.label_of.Goals as goal

pub loop-word-preserved : goal.loop-word-preserved
loop-word-preserved c =
    let read = map (map label_byte) in
    let before = c.loop-word.label.items in
    let word = map label_byte c.in-Some.word.now in
    let left = read c.next.new.self in
    let added = c.push_next.ensures in
    record {
      all =
          ap (λ (label : List ℕ). take 64 (label ++ joined_on false left)) added
          ∙ one_word before c.loop-word.first word left
          ∙ ap (λ (words : List (List ℕ)). take 64 (before ++ joined_on c.loop-word.first (read words))) (sym c.in-Some.ensures.steps)
          ∙ c.loop-word.invariant.all;
      short = omega (arith, ap length added, length-take 64 (before ++ put_behind c.loop-word.first word));
    }

pub returns : goal.returns
returns c =
    let read = map (map label_byte) in
    let label = c.loop-word.label.items in
    c.drop_blank.ensures
    ∙ ap without_blank
    (sym (no_word label c.loop-word.first c.loop-word.invariant.short)
    ∙ ap (λ (words : List (List ℕ)). take 64 (label ++ joined_on c.loop-word.first (read words))) (sym c.in-None.ensures.steps.0)
    ∙ c.loop-word.invariant.all)
