-- Fine coordinates and weights, and what lies between two numbers.
use Rattle.std.specs.Prelude.{◌^◌, ℤ, pos, neg_ℤ, ◌*ℤ◌, ◌≤ℤ◌, ◌⊎◌}
use Rattle.mb_base.specs.declared.TheConstants.{UNIT}

-- the greatest fine coordinate
abbrev pub fine_edge : ℤ
fine_edge = pos (2 ^ 30) *ℤ UNIT

-- a fine coordinate
pub record IsFine (z : ℤ) : Type 0 where
  pub low : neg_ℤ fine_edge ≤ℤ z
  pub high : z ≤ℤ fine_edge

-- a weight: the distance of two fine coordinates
pub record IsWeight (z : ℤ) : Type 0 where
  pub low : pos 0 ≤ℤ z
  pub high : z ≤ℤ (pos 2 *ℤ fine_edge)

-- z lies between u and v, whichever is the smaller
abbrev pub LiesBetween : ℤ → ℤ → ℤ → Type 0
LiesBetween u v z = ((u ≤ℤ z) × (z ≤ℤ v)) ⊎ ((v ≤ℤ z) × (z ≤ℤ u))
