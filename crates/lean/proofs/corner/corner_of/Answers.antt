use Rattle.std.proofs.Common.{arith, ◌≡◌, ◌*ℤ◌, ℤ, to_z, of_z, w32, w64, ap, refl}
use Rattle.std.proofs.lemmas.Int.{ints}
use Rattle.mb_base.specs.declared.TheConstants.{UNIT}
use Rattle.mesh_terms.specs.Points.{IsOnGrid, coordinate_of}
use Rattle.side_terms.specs.Fine.{IsFine}
use Rattle.lean.proofs.corner.corner_of.Goals as goal

-- a coordinate on the grid is fine in fine steps
fine_from_grid : (z v f : ℤ) → v ≡ z → f ≡ UNIT *ℤ to_z w32 (of_z w32 v) → IsOnGrid z → IsFine (to_z w64 (of_z w64 f))
fine_from_grid z v f same e h = record { low = omega (arith, ints, same, e, h); high = omega (arith, ints, same, e, h) }

-- and exact
exact : (z v f : ℤ) → v ≡ z → f ≡ UNIT *ℤ to_z w32 (of_z w32 v) → IsOnGrid z → to_z w64 (of_z w64 f) ≡ UNIT *ℤ z
exact z v f same e h = omega (arith, ints, same, e, h)

pub returns-clause-value : goal.returns-clause-value
returns-clause-value c =
    let point = c.args.point in
    let at = c.at.ensures.value in
    let x = exact (coordinate_of point 0) (coordinate_of c.at.result 0) c.fine_steps.result (ap (λ p. coordinate_of p 0) at) c.fine_steps.ensures c.at.ensures.on_grid.x in
    let y = exact (coordinate_of point 1) (coordinate_of c.at.result 1) c.fine_steps-2.result (ap (λ p. coordinate_of p 1) at) c.fine_steps-2.ensures c.at.ensures.on_grid.y in
    let z = exact (coordinate_of point 2) (coordinate_of c.at.result 2) c.fine_steps-3.result (ap (λ p. coordinate_of p 2) at) c.fine_steps-3.ensures c.at.ensures.on_grid.z in
    rw (x, y, z) refl

pub returns-clause-fine : goal.returns-clause-fine
returns-clause-fine c =
    let point = c.args.point in
    let at = c.at.ensures.value in
    record {
      x = fine_from_grid (coordinate_of point 0) (coordinate_of c.at.result 0) c.fine_steps.result (ap (λ p. coordinate_of p 0) at) c.fine_steps.ensures c.at.ensures.on_grid.x;
      y = fine_from_grid (coordinate_of point 1) (coordinate_of c.at.result 1) c.fine_steps-2.result (ap (λ p. coordinate_of p 1) at) c.fine_steps-2.ensures c.at.ensures.on_grid.y;
      z = fine_from_grid (coordinate_of point 2) (coordinate_of c.at.result 2) c.fine_steps-3.result (ap (λ p. coordinate_of p 2) at) c.fine_steps-3.ensures c.at.ensures.on_grid.z;
    }
