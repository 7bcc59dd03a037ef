use Rattle.std.proofs.Common.{ℕ, List, ◌++◌, ◌∙◌, ap}
use Rattle.std.proofs.lemmas.List.Sorted.{IsNonDecreasingBy-from_sort}
use Rattle.format_terms.specs.ObjFaces.{has_repeat}
use Rattle.obj_text.proofs.NamedTwice.{has_repeat-permutation}
use Rattle.obj_text.proofs.repeats.has_repeat.Goals as goal

pub has_repeat_of_ascending-requires : goal.has_repeat_of_ascending-requires
has_repeat_of_ascending-requires c = rw c.deref.ensures.value (IsNonDecreasingBy-from_sort (λ v. v) c.sort_unstable.new.self.items c.sort_unstable.ensures.sorted)

pub returns : goal.returns
returns c =
    c.has_repeat_of_ascending.ensures
    ∙ ap has_repeat c.deref.ensures.value
    ∙ has_repeat-permutation c.extend_from_slice.new.self.items c.sort_unstable.new.self.items c.sort_unstable.ensures.permutation
    ∙ ap has_repeat (c.in_ok-extend_from_slice.ensures.items ∙ ap (λ (items : List ℕ). items ++ c.args.vertices.now) c.clear.ensures.items)
