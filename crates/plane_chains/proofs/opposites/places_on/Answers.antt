use Rattle.std.proofs.Common.{ap, ◌++◌, ◌∙◌}
use Rattle.plane_chains.proofs.RimSets.{sorted_places}
use Rattle.plane_chains.proofs.opposites.places_on.Goals as goal

pub returns : goal.returns
returns c =
    sorted_places c.args.rim.now c.extend_from_slice.new.self.items c.sort_unstable.new.self.items c.dedup.new.self.items (c.in_ok-extend_from_slice.ensures.items ∙ ap (λ xs. xs ++ c.args.rim.now) c.new-places.ensures.items)
    c.sort_unstable.ensures.permutation c.sort_unstable.ensures.sorted c.dedup.ensures.filtered
