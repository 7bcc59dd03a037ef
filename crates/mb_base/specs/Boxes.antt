-- The least box that holds some corners.
use Rattle.std.specs.Prelude.{ℕ, ℤ, pos, ◌≤ℤ◌, List, [], ◌∷◌, get_or, map, slice_index_or}
use Rattle.std.specs.Int.{int_max, int_min}
use Rattle.std.specs.List.{All, fold}
use Rattle.mb_base.specs.declared.point.Box3.{Box3}
use Rattle.mb_base.specs.declared.point.Corner.{Corner}

-- the coordinate on axis i: 0 for x, 1 for y, 2 for z
abbrev pub axis : ℕ → Corner → ℤ
axis i c = slice_index_or c.at i (pos 0)

-- the least of some numbers; of none it is 0
abbrev pub least : List ℤ → ℤ
least zs = fold int_min (get_or zs 0 (pos 0)) zs

-- the greatest
abbrev pub greatest : List ℤ → ℤ
greatest zs = fold int_max (get_or zs 0 (pos 0)) zs

-- on each axis from the corners' least coordinate to their greatest
abbrev pub box_of : List Corner → Box3
box_of cs = record {
  low = least (map (axis 0) cs) ∷ least (map (axis 1) cs) ∷ least (map (axis 2) cs) ∷ [];
  high = greatest (map (axis 0) cs) ∷ greatest (map (axis 1) cs) ∷ greatest (map (axis 2) cs) ∷ [];
}

-- all numbers lie from low to high, and in no less
pub record IsLeastSpan (zs : List ℤ) (low high : ℤ) : Type 0 where
  pub above : All (λ z. low ≤ℤ z) zs
  pub below : All (λ z. z ≤ℤ high) zs
  pub least : (l : ℤ) → All (λ z. l ≤ℤ z) zs → l ≤ℤ low
  pub greatest : (h : ℤ) → All (λ z. z ≤ℤ h) zs → high ≤ℤ h

-- the box holds all corners, and every box that does takes it in
pub record IsLeastBox (cs : List Corner) (b : Box3) : Type 0 where
  pub x : IsLeastSpan (map (axis 0) cs) (get_or b.low 0 (pos 0)) (get_or b.high 0 (pos 0))
  pub y : IsLeastSpan (map (axis 1) cs) (get_or b.low 1 (pos 0)) (get_or b.high 1 (pos 0))
  pub z : IsLeastSpan (map (axis 2) cs) (get_or b.low 2 (pos 0)) (get_or b.high 2 (pos 0))
