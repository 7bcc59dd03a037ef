use Rattle.std.proofs.Common.{OnOk, ap, arith, length, subst, ◌++◌, ◌∙◌, ◌≡◌}
use Rattle.std.proofs.lemmas.List.{length-append}
use Rattle.plane_chains.specs.Lists.{lists_of}
use Rattle.plane_chains.proofs.Pieces.{ends_more, pushed, with_end, with_last}
use Rattle.plane_chains.proofs.lists.Lists.push_list.Goals as goal

pub invariant_of-self-2 : goal.invariant_of-self-2
invariant_of-self-2 g c =
    let e = c.in_ok-extend_from_slice.ensures.items in
    ends_more 0 c.self.inside.ends.items (length c.self.inside.items.items) (length c.extend_from_slice.new.self.items)
    (omega (arith, ap length e, length-append c.self.inside.items.items c.args.items.now)) c.self.invariant

pub returns : goal.returns
returns g c =
    let more : lists_of c.self.inside.ends.items c.extend_from_slice.new.self.items ≡ with_last c.args.self.now (c.args.self.now.1 ++ c.args.items.now) =
    ap (lists_of c.self.inside.ends.items) c.in_ok-extend_from_slice.ensures.items
    ∙ pushed c.self.inside.ends.items c.self.inside.items.items c.args.self.now c.self.view_is c.args.items.now c.self.invariant in
    subst (λ v. OnOk c.end.result (c.end.new.self ≡ v)) (ap with_end more) c.end.ensures
