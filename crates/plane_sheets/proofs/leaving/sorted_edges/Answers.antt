use Rattle.std.proofs.Common.{◌==◌, ◌<◌, rules, filter, refl, ap, ◌∙◌}
use Rattle.std.proofs.lemmas.List.Sorted.{All-permutation, IsNonDecreasingBy-from_sort, answers_always}
use Rattle.plane_sheets.specs.declared.leaving.Leaving.{Leaving}
use Rattle.plane_sheets.proofs.Ties.{stable_class}
use Rattle.plane_sheets.proofs.leaving.sorted_edges.Goals as goal

pub returns-clause-sorted : goal.returns-clause-sorted
returns-clause-sorted c = record {
  rise = IsNonDecreasingBy-from_sort (λ (l : Leaving). l.from) _ (c.in_ok-sort_by_key.ensures.sorted (λ l. l.from) (answers_always _ _ _ (λ f a r g h. search rules)));
  same = λ s. stable_class (λ (l : Leaving). l.from) _ _ s (record { from = s; to = 0; number = 0 }) refl
      (c.sort_by_key.ensures.stable (λ l. l.from) (answers_always _ _ _ (λ f a r g h. search rules))) ∙ ap (filter (λ (l : Leaving). l.from == s)) c.in_ok-order.ensures.value;
}

pub returns-clause-ends : goal.returns-clause-ends
returns-clause-ends c n all = All-permutation (λ (l : Leaving). l.to < n) _ _ c.sort_by_key.ensures.permutation (c.in_ok-order.ensures.ends n all)
