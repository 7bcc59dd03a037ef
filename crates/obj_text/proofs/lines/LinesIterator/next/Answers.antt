use Rattle.std.proofs.Common.{◌≡◌, ℕ, rules, List, ◌∷◌, sym, ◌∙◌, ap}
use Rattle.text_terms.specs.Lines.{lines_of, joined_from, before_comment}
use Rattle.format_terms.specs.Obj.{word_lines}
use Rattle.obj_text.specs.Lines.{first_words, lines_past}
use Rattle.obj_text.proofs.GoesOn.{word_lines-cut}
use Rattle.obj_text.proofs.lines.LinesIterator.next.Goals as goal

-- one line, and the lines after it
first_of : (n m : ℕ) (text line after rest : List ℕ) (words : List (List ℕ)) → lines_of text ≡ line ∷ lines_of after →
    lines_past n (line ∷ lines_of after) ≡ (m, lines_of rest) → words ≡ before_comment (first_words (line ∷ lines_of after)) →
    word_lines (joined_from n (lines_of text)) ≡ (n, words) ∷ word_lines (joined_from m (lines_of rest))
first_of n m text line after rest words e f g =
    ap (λ (ls : List (List ℕ)). word_lines (joined_from n ls)) e
    ∙ word_lines-cut n m line (lines_of after) (lines_of rest) f
    ∙ ap (λ (ws : List (List ℕ)). (n, ws) ∷ word_lines (joined_from m (lines_of rest))) (sym g)

cut : (c : goal.After-of) → word_lines (joined_from c.self.inside.number (lines_of c.self.inside.text.now)) ≡ (c.self.inside.number, c.of.result) ∷ word_lines
    (joined_from c.past_line-next.result.0 (lines_of c.past_line-next.result.1.now))
cut c =
    first_of c.self.inside.number c.past_line-next.result.0 c.self.inside.text.now c.first_line.result.0.now c.first_line.result.1.now
    c.past_line-next.result.1.now c.of.result c.first_line.ensures.lines c.past_line-next.ensures.past c.of.ensures

pub returns-clause-steps : goal.returns-clause-steps
returns-clause-steps c = sym c.self.view_is ∙ cut c

pub returns-clause-goes : goal.returns-clause-goes
returns-clause-goes c =
    let e : c.args.self.now ≡ (c.self.inside.number, c.of.result) ∷ word_lines (joined_from c.past_line-next.result.0 (lines_of c.past_line-next.result.1.now)) =
    sym c.self.view_is ∙ cut c in
    search (rules, e)
