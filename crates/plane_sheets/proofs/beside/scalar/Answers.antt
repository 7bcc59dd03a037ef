use Rattle.std.proofs.Common.{arith, ◌≡◌}
use Rattle.std.proofs.lemmas.Int.{ints}
use Rattle.plane_sheets.proofs.Kept.{kept, kept_sum}
use Rattle.plane_sheets.proofs.beside.scalar.Goals as goal

pub returns : goal.returns
returns c =
    let a : kept c.args.eu ≡ c.args.eu = omega (arith, ints, c.requires.eu_small) in
    let b : kept c.args.ev ≡ c.args.ev = omega (arith, ints, c.requires.ev_small) in
    let d : kept c.args.du ≡ c.args.du = omega (arith, ints, c.requires.du_small) in
    let e : kept c.args.dv ≡ c.args.dv = omega (arith, ints, c.requires.dv_small) in
    let whole = kept_sum c.product.result c.product-2.result c.product.ensures.small c.product-2.ensures.small in
    cc
