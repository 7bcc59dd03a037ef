use Rattle.std.proofs.Common.{◌≤◌, ◌-◌, ◌∙◌, ℕ, List, [], ◌∷◌, ◌++◌, append_assoc, take_all, length, length-drop, drop, arith, ap, sym}
use Rattle.text_terms.specs.Written.{three_numbers}
use Rattle.mesh_writer.proofs.lines.put_numbers.Goals as goal

pub returns : goal.returns
returns c =
    let numbers = three_numbers c.args.digits c.args.point.now in
    let start = c.word_before-start.result in
    let line = c.word_before-start.new.line in
    let full : length line ≤ 128 = omega arith in
    let whole = take_all (128 - start) (drop start line) (omega (arith, length-drop start line, full)) in
    c.put_text.ensures.text
    ∙ ap (λ (text : List ℕ). c.args.page.now.items ++ text)
    (whole ∙ c.word_before-start.ensures.text ∙ ap (λ (text : List ℕ). c.args.word.now ++ text) c.numbers_before-end.ensures.text
    ∙ sym (append_assoc c.args.word.now numbers (10 ∷ [])))
