use Rattle.std.proofs.Common.{◌≡◌, ℤ, [], get_or, to_z, of_z, w32, sym, subst, arith}
use Rattle.std.proofs.lemmas.Int.{ints}
use Rattle.mesh_terms.specs.Points.{IsOnGrid, coordinate_of}
use Rattle.outlines.proofs.outline.at_zero.Goals as goal

-- a coordinate of the grid as it stands in 32 bits
kept : (z : ℤ) → IsOnGrid z → IsOnGrid (to_z w32 (of_z w32 z))
kept z on =
    let same : to_z w32 (of_z w32 z) ≡ z = omega (arith, ints, on) in subst IsOnGrid (sym same) on

pub point_at-requires-clause-x : goal.point_at-requires-clause-x
point_at-requires-clause-x c = kept (coordinate_of (get_or c.args.places.now c.loop-x.x-index []) 0) (c.requires c.loop-x.x-index [] c.loop-x-test.true).x

pub point_at-requires-clause-y : goal.point_at-requires-clause-y
point_at-requires-clause-y c = kept (coordinate_of (get_or c.args.places.now c.loop-x.x-index []) 1) (c.requires c.loop-x.x-index [] c.loop-x-test.true).y
