-- Doubled areas in the plane, as sums of an odd function over edges.
use Rattle.std.specs.Prelude.{ℕ, ℤ, ◌-ℤ◌, ◌*ℤ◌}

-- the doubled area of the origin and the edge from a to b, at coordinates u and v
abbrev pub area_at : (ℕ → ℤ) → (ℕ → ℤ) → ℕ → ℕ → ℤ
area_at u v a b = u a *ℤ v b -ℤ u b *ℤ v a

-- the doubled area of a triangle, above 0 where it turns left
abbrev pub orientation : (ℕ → ℤ) → (ℕ → ℤ) → (ℕ × ℕ × ℕ) → ℤ
orientation u v t = (u t.1 -ℤ u t.0) *ℤ (v t.2 -ℤ v t.0) -ℤ (u t.2 -ℤ u t.0) *ℤ (v t.1 -ℤ v t.0)
