use Rattle.std.proofs.Common.{◌++◌, ◌∷◌, [], List, ℕ, ap, subst, sym, ◌∙◌}
use Rattle.std.specs.List.{All}
use Rattle.std.proofs.lemmas.List.Elements.{All-append, All-cons, All-nil}
use Rattle.mb_base.specs.Labels.{IsStored}
use Rattle.mb_base.proofs.labels.stored.StoredLabels.push.Goals as goal

pub invariant_of-self-2 : goal.invariant_of-self-2
invariant_of-self-2 c =
    let P = IsStored c.place.new.bytes.items in
    let start = c.in_ok-start.start in
    let starts = c.deref.result.now in
    let added = All-append P starts (start ∷ []) c.in_ok-start.ensures.kept (All-cons P start [] c.in_ok-start.ensures.place.0 (All-nil P)) in
    subst (All P) (sym (c.in_ok-push.ensures.items ∙ ap (λ (s : List ℕ). s ++ start ∷ []) (sym c.deref.ensures.value))) added
