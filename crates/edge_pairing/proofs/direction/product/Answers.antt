use Rattle.std.proofs.Common.{arith, ◌≤◌, ◌^◌, to_z, of_z, w64, unsigned_abs, sym, subst}
use Rattle.std.proofs.lemmas.Int.{ints}
use Rattle.edge_pairing.proofs.Products.{product_kept, product_small}
use Rattle.edge_pairing.proofs.direction.product.Goals as goal

pub returns-clause-value : goal.returns-clause-value
returns-clause-value c =
    product_kept c.args.step c.args.coordinate (to_z w64 (of_z w64 c.args.step)) (to_z w64 (of_z w64 c.from.result))
    (omega (arith, ints)) (omega (arith, ints, c.from.ensures, c.requires.on_grid)) c.requires.short c.requires.on_grid

pub returns-clause-small : goal.returns-clause-small
returns-clause-small c = subst (λ p. unsigned_abs p ≤ 2 ^ 61) (sym (returns-clause-value c)) (product_small c.args.step c.args.coordinate c.requires.short c.requires.on_grid)
