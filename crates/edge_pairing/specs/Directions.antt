-- Directions whose products with a point are small.
use Rattle.std.specs.Prelude.{ℕ, zero, suc, ◌≤◌, ◌^◌, ℤ, pos, List, [], ◌∷◌, unsigned_abs}
use Rattle.mesh_terms.specs.Points.{coordinate_of}

-- three steps of at most 2^31
pub record IsShort (d : List ℤ) : Type 0 where
  pub x : unsigned_abs (coordinate_of d 0) ≤ 2 ^ 31
  pub y : unsigned_abs (coordinate_of d 1) ≤ 2 ^ 31
  pub z : unsigned_abs (coordinate_of d 2) ≤ 2 ^ 31

-- one step along an axis
abbrev pub axis_step : ℕ → List ℤ
axis_step zero = pos 1 ∷ pos 0 ∷ pos 0 ∷ []
axis_step (suc zero) = pos 0 ∷ pos 1 ∷ pos 0 ∷ []
axis_step (suc (suc n)) = pos 0 ∷ pos 0 ∷ pos 1 ∷ []
