use Rattle.std.proofs.Common.{◌≡◌, ℕ, List, [], ◌∷◌, ◌++◌, sym, ne_eqb}
use Rattle.text_terms.specs.Lines.{without_cr}
use Rattle.grid_number.proofs.LineSteps.{without_cr-drops, without_cr-keeps}
use Rattle.grid_number.proofs.lines.without_cr.Goals as goal

-- the front of a line that ends in CR
drops : (line front : List ℕ) (last : ℕ) → line ≡ front ++ last ∷ [] → last ≡ 13 → front ≡ without_cr line
drops line front last e f = rw (e, f) (sym (without_cr-drops front))

-- a line that ends in another byte
keeps : (line front : List ℕ) (last : ℕ) → line ≡ front ++ last ∷ [] → (last ≡ 13 → ⊥) → line ≡ without_cr line
keeps line front last e f = rw e (sym (without_cr-keeps front last (ne_eqb last 13 f)))

pub returns-then-last-eq13 : goal.returns-then-last-eq13
returns-then-last-eq13 c = drops c.args.line.now c.in-Some.front.now c.in-Some.last.now c.in-Some.ensures.cases.0 c.if-last-eq13.true

pub returns-else-last-eq13 : goal.returns-else-last-eq13
returns-else-last-eq13 c = keeps c.args.line.now c.in-Some.front.now c.in-Some.last.now c.in-Some.ensures.cases.0 c.if-last-eq13.false
