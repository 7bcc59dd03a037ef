-- Places in the plane.
use Rattle.std.specs.Prelude.{ℤ, List}
use Rattle.mesh_terms.specs.Points.{IsOnGrid, coordinate_of}

-- x and y on the grid
pub record IsPlace (p : List ℤ) : Type 0 where
  pub x : IsOnGrid (coordinate_of p 0)
  pub y : IsOnGrid (coordinate_of p 1)
