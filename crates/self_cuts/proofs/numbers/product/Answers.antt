use Rattle.std.proofs.Common.{ℤ, ◌≤◌, ◌^◌, subst, sym, unsigned_abs}
use Rattle.self_cuts.proofs.Areas.{kept_product, product_small}
use Rattle.self_cuts.proofs.numbers.product.Goals as goal

pub returns-clause-value : goal.returns-clause-value
returns-clause-value c = kept_product c.args.x c.args.y c.requires.x_small c.requires.y_small

pub returns-clause-small : goal.returns-clause-small
returns-clause-small c =
    subst (λ (z : ℤ). unsigned_abs z ≤ 2 ^ 62) (sym (kept_product c.args.x c.args.y c.requires.x_small c.requires.y_small))
    (product_small c.args.x c.args.y c.requires.x_small c.requires.y_small)
