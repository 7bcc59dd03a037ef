use Rattle.std.proofs.Common.{◌≡◌, ◌+ℤ◌, arith, to_z, of_z}
use Rattle.std.specs.Int.{w128}
use Rattle.std.proofs.lemmas.Int.{ints}
use Rattle.mesh_terms.specs.Points.{coordinate_of}
use Rattle.lean.proofs.marks.added.Goals as goal

pub returns : goal.returns
returns c =
    let a = c.args.a.now in
    let b = c.args.b.now in
    let x : to_z w128 (of_z w128 (to_z w128 (of_z w128 (coordinate_of a 0)) +ℤ to_z w128 (of_z w128 (coordinate_of b 0))))
    ≡ coordinate_of a 0 +ℤ coordinate_of b 0 = omega (arith, ints) in
    let y : to_z w128 (of_z w128 (to_z w128 (of_z w128 (coordinate_of a 1)) +ℤ to_z w128 (of_z w128 (coordinate_of b 1))))
    ≡ coordinate_of a 1 +ℤ coordinate_of b 1 = omega (arith, ints) in
    let z : to_z w128 (of_z w128 (to_z w128 (of_z w128 (coordinate_of a 2)) +ℤ to_z w128 (of_z w128 (coordinate_of b 2))))
    ≡ coordinate_of a 2 +ℤ coordinate_of b 2 = omega (arith, ints) in cc
