use Rattle.std.proofs.Common.{arith, ◌≡◌, ◌<◌, ℕ, zero, suc, ℤ, List, to_z, of_z, w32, ap}
use Rattle.std.specs.Int.{int_max, int_min}
use Rattle.std.proofs.lemmas.Int.{ints, clamps}
use Rattle.mesh_terms.specs.Points.{coordinate_of, IsOnGrid, IsPoint}
use Rattle.lean.proofs.grid.range_on.Goals as goal

-- each coordinate of a point is on the grid
on_grid : (p : List ℤ) (i : ℕ) → i < 3 → IsPoint p → IsOnGrid (coordinate_of p i)
on_grid p zero below point = point.x
on_grid p (suc zero) below point = point.y
on_grid p (suc (suc zero)) below point = point.z
on_grid p (suc (suc (suc k))) below point = omega (arith, below)

-- a number as it stands after it was kept at 32 bits
abbrev seen : ℤ → ℤ
seen z = to_z w32 (of_z w32 z)

-- the least and the greatest of three small numbers, as they stand
least_seen : (x y z a b c m n : ℤ) → x ≡ a → y ≡ b → z ≡ c → IsOnGrid a → IsOnGrid b → IsOnGrid c →
    m ≡ int_min (seen x) (seen y) → n ≡ int_min (seen m) (seen z) → seen n ≡ int_min (int_min a b) c
least_seen x y z a b c m n e f g h k l d s = omega (arith, ints, clamps, e, f, g, h, k, l, d, s)

greatest_seen : (x y z a b c m n : ℤ) → x ≡ a → y ≡ b → z ≡ c → IsOnGrid a → IsOnGrid b → IsOnGrid c →
    m ≡ int_max (seen x) (seen y) → n ≡ int_max (seen m) (seen z) → seen n ≡ int_max (int_max a b) c
greatest_seen x y z a b c m n e f g h k l d s = omega (arith, ints, clamps, e, f, g, h, k, l, d, s)

pub returns : goal.returns
returns c =
    let i = c.args.axis in
    let at : List ℤ → ℤ = λ p. coordinate_of p i in
    let h = on_grid c.args.a i c.requires c.at.ensures.on_grid in
    let k = on_grid c.args.b i c.requires c.at-2.ensures.on_grid in
    let l = on_grid c.args.c i c.requires c.at-3.ensures.on_grid in
    let e = ap at c.at.ensures.value in
    let f = ap at c.at-2.ensures.value in
    let g = ap at c.at-3.ensures.value in
    let low = least_seen (at c.at.result) (at c.at-2.result) (at c.at-3.result) (at c.args.a) (at c.args.b)
    (at c.args.c) c.min.result c.min-2.result e f g h k l c.min.ensures.value c.min-2.ensures.value in
    let high = greatest_seen (at c.at.result) (at c.at-2.result) (at c.at-3.result) (at c.args.a) (at c.args.b)
    (at c.args.c) c.max.result c.max-2.result e f g h k l c.max.ensures.value c.max-2.ensures.value in
    λ i. record { low = low i; high = high i }
