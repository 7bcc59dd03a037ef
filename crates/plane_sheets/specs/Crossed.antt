-- How often an edge crosses a ray.
use Rattle.std.specs.Prelude.{ℤ, pos, neg_ℤ}
use Rattle.plane_sheets.specs.declared.beside.Passes.{Passes}
use Rattle.plane_sheets.specs.declared.beside.Passes.TheVariants.{Up, Down, No}

-- 1 upward, -1 downward
abbrev pub times : Passes → ℤ
times Up = pos 1
times Down = neg_ℤ (pos 1)
times No = pos 0
