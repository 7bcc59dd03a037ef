use Rattle.std.proofs.Common.{arith}
use Rattle.std.proofs.lemmas.Int.{ints}
use Rattle.shadow_kernels.specs.Hulls.{fine_on}
use Rattle.exact_kernels.proofs.signs.way.Goals as goal

pub overflow_sub-result : goal.overflow_sub-result
overflow_sub-result c =
    let f = fine_on c.args.i c.args.from.now c.requires.i c.requires.from_fine in
    let t = fine_on c.args.i c.args.to.now c.requires.i c.requires.to_fine in omega (arith, ints, f.low, f.high, t.low, t.high)

pub returns-clause-value : goal.returns-clause-value
returns-clause-value c =
    let f = fine_on c.args.i c.args.from.now c.requires.i c.requires.from_fine in
    let t = fine_on c.args.i c.args.to.now c.requires.i c.requires.to_fine in omega (arith, ints, f.low, f.high, t.low, t.high)

pub returns-clause-small : goal.returns-clause-small
returns-clause-small c =
    let f = fine_on c.args.i c.args.from.now c.requires.i c.requires.from_fine in
    let t = fine_on c.args.i c.args.to.now c.requires.i c.requires.to_fine in omega (arith, ints, f.low, f.high, t.low, t.high)
