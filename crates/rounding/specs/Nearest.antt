-- Rounding to the nearest whole number, a half upwards.
use Rattle.std.specs.Prelude.{ℤ, pos, ◌+ℤ◌, ◌-ℤ◌, ◌*ℤ◌, if◌then◌else◌}
use Rattle.std.specs.Int.{int_div_euclid}
use Rattle.std.specs.Ordering.{int_eq}
use Rattle.mb_base.specs.declared.TheConstants.{UNIT}

-- n / d to the nearest whole number, a half upwards: the floor of (2n + d) / (2d), for d above 0
abbrev pub rounded : ℤ → ℤ → ℤ
rounded n d = int_div_euclid (pos 2 *ℤ n +ℤ d) (pos 2 *ℤ d)

-- from u towards v by the share a of a + b, rounded, and u where there is no weight
abbrev pub nearest : ℤ → ℤ → ℤ → ℤ → ℤ
nearest u v a b = if int_eq (a +ℤ b) (pos 0) then u else (u +ℤ rounded ((v -ℤ u) *ℤ a) (a +ℤ b))

-- the grid step nearest to a fine coordinate
abbrev pub settle_nearest : ℤ → ℤ
settle_nearest fine = rounded fine UNIT
