use Rattle.std.proofs.Common.{ap, arith, length, ◌∙◌, ◌≡◌}
use Rattle.plane_chains.specs.Lists.{are_ends, lists_of}
use Rattle.plane_chains.proofs.Pieces.{ended, ends_ended}
use Rattle.plane_chains.proofs.lists.Lists.end.Goals as goal

pub invariant_of-self-2 : goal.invariant_of-self-2
invariant_of-self-2 g c =
    let long : c.len.result ≡ length c.self.inside.items.items = omega (arith, c.len.ensures, c.self.inside.items.ok.0) in
    ap (λ es. are_ends 0 es (length c.self.inside.items.items)) c.in_ok-push.ensures.items
    ∙ ends_ended c.self.inside.ends.items c.len.result (length c.self.inside.items.items) long c.self.invariant

pub returns : goal.returns
returns g c =
    let long : c.len.result ≡ length c.self.inside.items.items = omega (arith, c.len.ensures, c.self.inside.items.ok.0) in
    ap (λ es. lists_of es c.self.inside.items.items) c.in_ok-push.ensures.items
    ∙ ended c.self.inside.ends.items c.self.inside.items.items c.args.self.now c.self.view_is c.len.result long
