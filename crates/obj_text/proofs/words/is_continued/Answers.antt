use Rattle.std.proofs.Common.{◌≡◌, ℕ, Bool, not, List, [], ◌∷◌, ◌++◌, sym, ap, ◌∙◌, ne_eqb}
use Rattle.std.specs.Prelude.{◌==◌, ◌&&◌}
use Rattle.text_terms.specs.Lines.{is_continued, begins_comment, words_of}
use Rattle.obj_text.proofs.GoesOn.{is_continued-end}
use Rattle.obj_text.proofs.words.is_continued.Goals as goal

-- a line that ends in \ goes on where it does not begin a comment
ends_so : (line front : List ℕ) (last : ℕ) (b : Bool) → line ≡ front ++ last ∷ [] → last ≡ 92 → b ≡ begins_comment (words_of line) → not b ≡ is_continued line
ends_so line front last b e f g =
    ap not g ∙ ap (λ (n : ℕ). (n == 92) && not (begins_comment (words_of line))) (sym f) ∙ sym (is_continued-end line front last e)

-- another does not
ends_otherwise : (line front : List ℕ) (last : ℕ) → line ≡ front ++ last ∷ [] → (last ≡ 92 → ⊥) → (last == 92) ≡ is_continued line
ends_otherwise line front last e f =
    let other = ne_eqb last 92 f in
    other ∙ sym (is_continued-end line front last e ∙ ap (λ (b : Bool). b && not (begins_comment (words_of line))) other)

pub returns-then-last-eq92 : goal.returns-then-last-eq92
returns-then-last-eq92 c =
    ends_so c.args.line.now c.in-Some.field-0-1.now c.in-Some.last.now c.begins_comment.result c.in-Some.ensures.cases.0 c.if-last-eq92.true c.begins_comment.ensures

pub returns-else-last-eq92 : goal.returns-else-last-eq92
returns-else-last-eq92 c = ends_otherwise c.args.line.now c.in-Some.field-0-1.now c.in-Some.last.now c.in-Some.ensures.cases.0 c.if-last-eq92.false
