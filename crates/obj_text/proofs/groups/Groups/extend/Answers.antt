use Rattle.std.proofs.Common.{◌≡◌, ◌≤◌, ◌-◌, ◌++◌, ℕ, List, [], ◌∷◌, length, replicate, true, refl, sym, ap, ◌∙◌, arith}
use Rattle.std.specs.Prelude.{◌==◌}
use Rattle.std.proofs.lemmas.Bool.Decides.{nat_tests}
use Rattle.obj_text.specs.Groups.{padded}
use Rattle.obj_text.proofs.LabelSteps.{empty_more, label_more}
use Rattle.obj_text.proofs.groups.Groups.extend.Goals as goal

-- a text without bytes
none : (xs : List ℕ) → (length xs == 0) ≡ true → [] ≡ xs
none [] h = refl
none (x ∷ xs) h = absurd (grind (arith, nat_tests, h))

pub returns-then-is_empty-clause-added : goal.returns-then-is_empty-clause-added
returns-then-is_empty-clause-added c =
    let labels = c.self.inside.labels in
    let few : length labels ≤ c.args.from = rw (← c.self.view_is) at c.requires.few in
    let empty : [] ≡ c.self.inside.label.items = none c.self.inside.label.items (sym c.is_empty.ensures ∙ c.if-is_empty.true) in
    rw (← c.self.view_is)
    (empty_more c.args.from c.args.to labels few c.requires.order ∙ ap (λ (l : List ℕ). padded c.args.from labels ++ replicate (c.args.to - c.args.from) l) empty)
