use Rattle.std.proofs.Common.{ℕ, ◌∙◌, sym, ap, List, Option, Some, add-one}
use Rattle.format_terms.specs.ObjFaces.{is_slash}
use Rattle.obj_text.proofs.CutSteps.{cut_at-no_position, cut_at-position}
use Rattle.obj_text.proofs.items.cut_at_slash.Goals as goal

pub returns-in-None-clause-before : goal.returns-in-None-clause-before
returns-in-None-clause-before c = ap (λ (r : List ℕ × Option (List ℕ)). r.0) (sym (cut_at-no_position is_slash c.args.text.now (sym c.in-None.ensures)))

pub returns-in-None-clause-after : goal.returns-in-None-clause-after
returns-in-None-clause-after c = ap (λ (r : List ℕ × Option (List ℕ)). r.1) (sym (cut_at-no_position is_slash c.args.text.now (sym c.in-None.ensures)))

pub returns-in-Some-clause-before : goal.returns-in-Some-clause-before
returns-in-Some-clause-before c =
    c.split_at.ensures.front ∙ ap (λ (r : List ℕ × Option (List ℕ)). r.0) (sym (cut_at-position is_slash c.args.text.now c.in-Some.place (sym c.in-Some.ensures)))

pub returns-in-Some-clause-after : goal.returns-in-Some-clause-after
returns-in-Some-clause-after c =
    ap (λ (t : List ℕ). Some t) (rw add-one at c.split_at-in-Some.ensures.back)
    ∙ ap (λ (r : List ℕ × Option (List ℕ)). r.1) (sym (cut_at-position is_slash c.args.text.now c.in-Some.place (sym c.in-Some.ensures)))
