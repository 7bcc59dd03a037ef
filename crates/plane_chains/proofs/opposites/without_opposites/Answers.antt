use Rattle.std.proofs.Common.{ap, arith, length, subst, sym, ◌*◌, ◌<◌, ◌∙◌}
use Rattle.std.specs.List.{All}
use Rattle.plane_chains.proofs.Opposed.{kinds_long, kinds_low}
use Rattle.plane_chains.proofs.opposites.without_opposites.Goals as goal

pub kinds_of-requires-clause-long : goal.kinds_of-requires-clause-long
kinds_of-requires-clause-long c = ap length c.deref.ensures.value ∙ c.in_ok-sets.ensures.long

pub kinds_of-requires-clause-below : goal.kinds_of-requires-clause-below
kinds_of-requires-clause-below c = subst (λ ns. All (λ k. k < length c.args.some.now) ns) (sym c.deref.ensures.value) c.in_ok-sets.ensures.below

pub by_key-requires-clause-below : goal.by_key-requires-clause-below
by_key-requires-clause-below c =
    let some = c.args.some.now in
    let sets = c.deref.result.now in
    subst (λ ns. All (λ k. k < 2 * length some) ns) (sym (c.deref-2.ensures.value ∙ c.in_ok-kinds.ensures))
    (kinds_low some sets (ap length c.deref.ensures.value ∙ c.in_ok-sets.ensures.long)
    (subst (λ ns. All (λ k. k < length some) ns) (sym c.deref.ensures.value) c.in_ok-sets.ensures.below))

pub by_key-requires-clause-few : goal.by_key-requires-clause-few
by_key-requires-clause-few c =
    omega (arith, ap length c.deref-2.ensures.value, ap length c.in_ok-kinds.ensures, kinds_long c.args.some.now c.deref.result.now)
