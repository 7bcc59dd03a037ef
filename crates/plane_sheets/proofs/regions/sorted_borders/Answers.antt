use Rattle.std.proofs.Common.{◌<◌, length, rules, ◌∙◌}
use Rattle.std.specs.List.{All}
use Rattle.std.proofs.lemmas.List.Sorted.{All-permutation, IsNonDecreasingBy-from_sort, answers_always}
use Rattle.plane_sheets.specs.declared.borders.RegionEdge.{RegionEdge}
use Rattle.plane_sheets.specs.Found.{IsWithin}
use Rattle.plane_sheets.proofs.Naming.{sorted_class, sorted_grouped}
use Rattle.plane_sheets.proofs.regions.sorted_borders.Goals as goal

pub returns-clause-borders : goal.returns-clause-borders
returns-clause-borders c labels cs stored counted j k below some few =
    sorted_class j k _ _ _ (c.sort_by_key.ensures.stable (λ e. e.level) (answers_always _ _ _ (λ f a r g h. search rules)))
    (c.sort_by_key-2.ensures.stable (λ e. e.label) (answers_always _ _ _ (λ f a r g h. search rules)))
    ∙ c.in_ok-edges.ensures.borders labels cs stored counted j k below some few

pub returns-clause-within : goal.returns-clause-within
returns-clause-within c n few =
    All-permutation (IsWithin n c.args.most) _ _ c.sort_by_key-2.ensures.permutation
    (All-permutation (IsWithin n c.args.most) _ _ c.sort_by_key.ensures.permutation (c.in_ok-edges.ensures.within n few))

pub returns-clause-places : goal.returns-clause-places
returns-clause-places c =
    let inside : RegionEdge → Type 0 = λ e. All (λ v. v < length c.args.flat.points.now) e.ends in
    All-permutation inside _ _ c.sort_by_key-2.ensures.permutation (All-permutation inside _ _ c.sort_by_key.ensures.permutation c.in_ok-edges.ensures.places)

pub returns-clause-grouped : goal.returns-clause-grouped
returns-clause-grouped c =
    sorted_grouped _ _ (IsNonDecreasingBy-from_sort (λ (e : RegionEdge). e.level) _
    (c.in_ok-sort_by_key.ensures.sorted (λ e. e.level) (answers_always _ _ _ (λ f a r g h. search rules))))
    (IsNonDecreasingBy-from_sort (λ (e : RegionEdge). e.label) _ (c.in_ok-sort_by_key-2.ensures.sorted (λ e. e.label) (answers_always _ _ _ (λ f a r g h. search rules))))
    (c.sort_by_key-2.ensures.stable (λ e. e.label) (answers_always _ _ _ (λ f a r g h. search rules)))
