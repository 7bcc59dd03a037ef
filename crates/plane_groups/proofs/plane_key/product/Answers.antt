use Rattle.std.proofs.Common.{arith, ◌≡◌, ◌≤◌, ◌^◌, ℤ, ◌*ℤ◌, unsigned_abs, sym, subst, to_z, of_z}
use Rattle.std.proofs.lemmas.Int.{ints, unsigned_abs-mul}
use Rattle.std.proofs.lemmas.Nat.{mul-le}
use Rattle.std.specs.Int.{w128}
use Rattle.mb_base.proofs.Widths.{same_at}
use Rattle.plane_groups.proofs.plane_key.product.Goals as goal

-- the product is small
product_small : (n p : ℤ) → unsigned_abs n ≤ 2 ^ 63 → unsigned_abs p ≤ 2 ^ 30 → unsigned_abs (n *ℤ p) ≤ 2 ^ 93
product_small n p h k = rw (unsigned_abs-mul n p) (omega (arith, mul-le (unsigned_abs n) (unsigned_abs p) (2 ^ 63) (2 ^ 30) h k))

-- the product of numbers that were kept at 128 bits is that of the numbers
product_kept : (n p read : ℤ) → read ≡ p → unsigned_abs n ≤ 2 ^ 63 → unsigned_abs p ≤ 2 ^ 30 →
    to_z w128 (of_z w128 (to_z w128 (of_z w128 n) *ℤ to_z w128 (of_z w128 read))) ≡ n *ℤ p
product_kept n p read is h k =
    rw (is, same_at w128 n (2 ^ 63) h (omega arith), same_at w128 p (2 ^ 30) k (omega arith)) (same_at w128 (n *ℤ p) (2 ^ 93) (product_small n p h k) (omega arith))

pub returns-clause-value : goal.returns-clause-value
returns-clause-value c =
    let read : c.from.result ≡ c.args.p = omega (arith, ints, c.from.ensures, c.requires.on_grid) in product_kept c.args.n
    c.args.p c.from.result read c.requires.small c.requires.on_grid

pub returns-clause-small : goal.returns-clause-small
returns-clause-small c = subst (λ z. unsigned_abs z ≤ 2 ^ 93) (sym (returns-clause-value c)) (product_small c.args.n c.args.p c.requires.small c.requires.on_grid)
