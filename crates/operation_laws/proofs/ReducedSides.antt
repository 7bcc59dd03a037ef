-- The sides of reduced meshes: what every side keeps, without opposite triples, at points of the grid.
use Rattle.std.proofs.Common.{◌≡◌, ℤ, ◌*ℤ◌, Bool, List, [], ◌∷◌, length, sym, subst, arith, refl}
use Rattle.std.specs.List.{All}
use Rattle.std.proofs.lemmas.Int.{ints}
use Rattle.std.proofs.lemmas.List.Elements.{All-cons, All-head, All-nil, All-tail}
use Rattle.mb_base.specs.declared.TheConstants.{UNIT}
use Rattle.mesh_terms.specs.Given.{IsGiven}
use Rattle.mesh_terms.specs.Meshes.{IsAccepted, Mesh}
use Rattle.mesh_terms.specs.Points.{IsOnGrid, IsPoint, coordinate_of}
use Rattle.mesh_check.specs.Reduced.{NoOpposite}
use Rattle.mesh_check.proofs.ReducedMesh.{reduced_no_opposite}
use Rattle.side_terms.specs.Corners.{AllFine, IsFineCorner}
use Rattle.side_terms.specs.Fine.{IsFine}
use Rattle.side_terms.specs.Sides.{IsSide, Side, corner_of, corners_of, side_of}
use Rattle.lean.proofs.Corners.{corners_long, corners_whole}
use Rattle.side_terms.specs.PointLaws.{corners_points}
use Rattle.side_terms.specs.Points.{points_of}
use Rattle.mesh_boolean.specs.Operation.{reduced_mesh}
use Rattle.split_laws.proofs.Reduced.{reduced_given}

-- a side at points of the grid, without opposite triples
pub record IsKnown (side : Side) : Type 0 where
  pub kept : IsSide side
  pub apart : NoOpposite side.triples
  pub on_grid : All IsPoint (points_of side.corners)

-- a coordinate on the grid is fine in fine steps
fine_steps : (z f : ℤ) → f ≡ UNIT *ℤ z → IsOnGrid z → IsFine f
fine_steps z f e on = record { low = omega (arith, ints, e, on); high = omega (arith, ints, e, on) }

corner_fine : (p : List ℤ) (u : List Bool) → IsPoint p → IsFineCorner (corner_of p u)
corner_fine p u on = record {
  x = fine_steps (coordinate_of p 0) (UNIT *ℤ coordinate_of p 0) refl on.x;
  y = fine_steps (coordinate_of p 1) (UNIT *ℤ coordinate_of p 1) refl on.y;
  z = fine_steps (coordinate_of p 2) (UNIT *ℤ coordinate_of p 2) refl on.z;
}

-- so the corners of points of the grid are fine
pub corners_fine : (ps : List (List ℤ)) (us : List (List Bool)) → All IsPoint ps → AllFine (corners_of ps us)
corners_fine [] us on = All-nil IsFineCorner
corners_fine (p ∷ ps) [] on = All-nil IsFineCorner
corners_fine (p ∷ ps) (u ∷ us) on =
    All-cons IsFineCorner (corner_of p u) (corners_of ps us) (corner_fine p u (All-head IsPoint p ps on)) (corners_fine ps us (All-tail IsPoint p ps on))

-- the side of such a mesh with marks for each point
pub side_is : (m : Mesh) (ups : List (List Bool)) → IsGiven m → length ups ≡ length m.points → IsSide (side_of m ups)
side_is m ups given each = record {
  fine = corners_fine m.points ups given.on_grid;
  whole = corners_whole m.points ups;
  accepted = subst (λ n. IsAccepted n m.triples) (sym (corners_long m.points ups each)) given.accepted;
  twinned = record { few = given.accepted.mesh.few_triples; three = given.accepted.mesh.three; closed = given.accepted.closed; each = refl };
}

-- the side of the reduced mesh
pub reduced_side : (m : Mesh) (ups : List (List Bool)) → IsGiven m → length ups ≡ length (reduced_mesh m).points → IsKnown (side_of (reduced_mesh m) ups)
reduced_side m ups given each =
    let known = reduced_given m given in record {
      kept = side_is (reduced_mesh m) ups known each;
      apart = reduced_no_opposite m.points m.triples m.labels given.accepted.mesh;
      on_grid = subst (All IsPoint) (sym (corners_points (reduced_mesh m).points ups known.on_grid each)) known.on_grid;
    }
