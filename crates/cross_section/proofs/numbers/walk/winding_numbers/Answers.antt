use Rattle.std.proofs.Common.{length, subst, sym}
use Rattle.std.specs.List.{All}
use Rattle.std.specs.List.Sorted.{IsPermutation}
use Rattle.std.proofs.lemmas.List.Sorted.{All-permutation}
use Rattle.outline_terms.specs.Outlines.{IsBetween}
use Rattle.cross_section.proofs.numbers.walk.winding_numbers.Goals as goal

pub walk-requires-clause-below : goal.walk-requires-clause-below
walk-requires-clause-below g c =
    let side = c.args.vertices.now in
    let list = c.in_ok-list.list.items in
    let moved = subst (λ es. IsPermutation es list) c.edges.ensures.value c.in_ok-list.ensures in
    subst (All (IsBetween (length side.corners))) (sym c.deref.ensures.value) (All-permutation (IsBetween (length side.corners)) side.edges list moved c.corners.ensures.side.below)
