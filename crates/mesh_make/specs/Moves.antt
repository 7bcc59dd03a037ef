-- The motions that may leave the grid.
use Rattle.std.specs.Prelude.{◌≤◌, ℤ, pos, List}
use Rattle.made_terms.specs.Motions.{shifted, scaled}
use Rattle.mesh_make.specs.declared.motions.grid.GridMotion.{GridMotion}
use Rattle.mesh_make.specs.declared.motions.grid.GridMotion.TheVariants.{Shift, Scale}

-- where a point goes
abbrev pub moves : GridMotion → List ℤ → List ℤ
moves (Shift by) p = shifted by p
moves (Scale factor) p = scaled (pos factor) p

-- the factor is small enough for whole numbers of 64 bits
abbrev pub IsSmall : GridMotion → Type 0
IsSmall (Shift by) = Unit {0}
IsSmall (Scale factor) = factor ≤ 1000000
