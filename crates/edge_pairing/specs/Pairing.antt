-- The pairing of starts and ends along an edge and on the line in which two faces cross.
use Rattle.std.specs.Prelude.{ℕ, ℤ, pos, ◌+ℤ◌, ◌-ℤ◌, ◌*ℤ◌, List, [], ◌∷◌, ◌++◌, Bool, ◌&&◌, if◌then◌else◌, map, int_le}
use Rattle.std.specs.Int.{int_min, int_max}
use Rattle.std.specs.List.{fold, zip}
use Rattle.std.specs.Ordering.{is_lt, int_cmp, nat_cmp, ordering_then}
use Rattle.chain_laws.specs.Sorting.{sorted_by}
use Rattle.mesh_terms.specs.Points.{coordinate_of}

-- by the key, and by number where it ties
abbrev pub comes_before : (ℕ → ℤ) → ℕ → ℕ → Bool
comes_before key v w = is_lt (ordering_then (int_cmp (key v) (key w)) (nat_cmp v w))

-- starts and ends, each in their order, joined place by place
abbrev pub pair_up : (ℕ → ℤ) → List ℕ → List ℕ → List (ℕ × ℕ)
pair_up key starts ends = zip (sorted_by (comes_before key) starts) (sorted_by (comes_before key) ends)

-- from a to b
abbrev pub step : List ℤ → List ℤ → List ℤ
step a b = (coordinate_of b 0 -ℤ coordinate_of a 0) ∷ (coordinate_of b 1 -ℤ coordinate_of a 1) ∷ (coordinate_of b 2 -ℤ coordinate_of a 2) ∷ []

-- the scalar product of a direction and a point
abbrev pub scalar_product : List ℤ → List ℤ → ℤ
scalar_product d p = coordinate_of d 0 *ℤ coordinate_of p 0 +ℤ coordinate_of d 1 *ℤ coordinate_of p 1 +ℤ coordinate_of d 2 *ℤ coordinate_of p 2

-- along an edge whose lower half-edge runs from a to b: by the scalar product with b - a
abbrev pub paired_along : List ℤ → List ℤ → (ℕ → List ℤ) → List ℕ → List ℕ → List (ℕ × ℕ)
paired_along a b place starts ends = pair_up (λ v. scalar_product (step a b) (place v)) starts ends

-- from the least to the greatest of the numbers
abbrev pub spread : List ℤ → ℤ
spread [] = pos 0
spread (x ∷ xs) = fold int_max x xs -ℤ fold int_min x xs

-- how far the points spread on an axis
abbrev pub spread_on : List (List ℤ) → ℕ → ℤ
spread_on places axis = spread (map (λ p. coordinate_of p axis) places)

-- the axis on which they spread most, the lowest such
abbrev pub spread_axis : List (List ℤ) → ℕ
spread_axis places =
    let x = spread_on places 0 in
    let y = spread_on places 1 in
    let z = spread_on places 2 in
    if int_le y x && int_le z x then 0 else if int_le z y then 1 else 2

-- on the line in which two faces cross: by the coordinate on that axis of the starts and the ends together
abbrev pub paired_across : (ℕ → List ℤ) → List ℕ → List ℕ → List (ℕ × ℕ)
paired_across place starts ends =
    let axis = spread_axis (map place (starts ++ ends)) in pair_up (λ v. coordinate_of (place v) axis) starts ends
