use Rattle.std.proofs.Common.{[], ap, arith, length, ◌∷◌, ◌∙◌}
use Rattle.std.proofs.lemmas.List.{length-append}
use Rattle.plane_chains.specs.Lists.{lists_of}
use Rattle.plane_chains.proofs.Pieces.{ends_more, pushed}
use Rattle.plane_chains.proofs.lists.Lists.push.Goals as goal

pub invariant_of-self-2 : goal.invariant_of-self-2
invariant_of-self-2 g c =
    let e = c.in_ok-push.ensures.items in
    ends_more 0 c.self.inside.ends.items (length c.self.inside.items.items) (length c.push.new.self.items)
    (omega (arith, ap length e, length-append c.self.inside.items.items (c.args.item ∷ []))) c.self.invariant

pub returns : goal.returns
returns g c =
    ap (lists_of c.self.inside.ends.items) c.in_ok-push.ensures.items
    ∙ pushed c.self.inside.ends.items c.self.inside.items.items c.args.self.now c.self.view_is (c.args.item ∷ []) c.self.invariant
