use Rattle.std.proofs.Common.{◌∙◌, arith}
use Rattle.angle_pairing.proofs.Lists.{firsts_low, firsts_many}
use Rattle.angle_pairing.proofs.alike.gather.Goals as goal

pub by_key-requires-clause-below : goal.by_key-requires-clause-below
by_key-requires-clause-below c = firsts_low c.args.pairs.now c.deref.result.now (c.deref.ensures.value ∙ c.in_ok-firsts.ensures)

pub by_key-requires-clause-few : goal.by_key-requires-clause-few
by_key-requires-clause-few c =
    let many = firsts_many c.args.pairs.now c.deref.result.now (c.deref.ensures.value ∙ c.in_ok-firsts.ensures) in omega (arith, many, c.requires)
