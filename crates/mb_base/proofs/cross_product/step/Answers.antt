use Rattle.std.proofs.Common.{arith, ◌≡◌, ◌^◌, ◌<◌, ℕ, zero, suc, ℤ, ◌-ℤ◌, List, to_z, of_z, w32, w64}
use Rattle.std.proofs.lemmas.Int.{ints}
use Rattle.mesh_terms.specs.Points.{coordinate_of, IsOnGrid, IsPoint}
use Rattle.mb_base.proofs.Widths.{same_at, same_difference}
use Rattle.mb_base.proofs.cross_product.step.Goals as goal

-- each coordinate of a point is on the grid
on_grid : (p : List ℤ) (i : ℕ) → i < 3 → IsPoint p → IsOnGrid (coordinate_of p i)
on_grid p zero below point = point.x
on_grid p (suc zero) below point = point.y
on_grid p (suc (suc zero)) below point = point.z
on_grid p (suc (suc (suc k))) below point = omega (arith, below)

-- a coordinate that was kept at 32 bits
kept_is : (s : ℤ) (p a : List ℤ) (i : ℕ) → s ≡ to_z w32 (of_z w32 (coordinate_of p i)) → p ≡ a → IsOnGrid (coordinate_of a i) → s ≡ coordinate_of a i
kept_is s p a i is same small =
    let kept : to_z w32 (of_z w32 (coordinate_of a i)) ≡ coordinate_of a i = same_at w32 (coordinate_of a i) (2 ^ 30) small (omega arith) in
    cc

-- a step between coordinates, as it stands after it was kept at 64 bits
kept_step : (s t x y : ℤ) → s ≡ x → t ≡ y → IsOnGrid x → IsOnGrid y → to_z w64 (of_z w64 (to_z w64 (of_z w64 s) -ℤ to_z w64 (of_z w64 t))) ≡ x -ℤ y
kept_step s t x y e f h k = rw (e, f) (same_difference w64 x y (2 ^ 30) h k (omega arith))

pub returns-clause-value : goal.returns-clause-value
returns-clause-value c =
    let i = c.args.axis in
    let h = on_grid c.args.to i c.requires c.at.ensures.on_grid in
    let k = on_grid c.args.from i c.requires c.at-2.ensures.on_grid in
    let x = kept_is c.from.result c.at.result c.args.to i c.from.ensures c.at.ensures.value h in
    let y = kept_is c.from-2.result c.at-2.result c.args.from i c.from-2.ensures c.at-2.ensures.value k in
    kept_step c.from.result c.from-2.result (coordinate_of c.args.to i) (coordinate_of c.args.from i) x y h k

pub returns-clause-small : goal.returns-clause-small
returns-clause-small c =
    let h = on_grid c.args.to c.args.axis c.requires c.at.ensures.on_grid in
    let k = on_grid c.args.from c.args.axis c.requires c.at-2.ensures.on_grid in
    rw (returns-clause-value c) (omega (arith, ints, h, k))
