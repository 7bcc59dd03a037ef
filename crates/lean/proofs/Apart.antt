-- Corners whose box does not touch an area.
use Rattle.std.proofs.Common.{◌≡◌, ◌<◌, ◌⊎◌, ℕ, ℤ, pos, false, List, length, map, refl, inl, inr, subst, arith, ◌&&◌}
use Rattle.std.specs.Prelude.{◌≤ℤ◌, ◌<ℤ◌}
use Rattle.std.specs.Int.Signed.{le_z}
use Rattle.std.specs.List.{All}
use Rattle.std.proofs.lemmas.Bool.{and_cases, cases_Bool}
use Rattle.std.proofs.lemmas.Int.{ints, clamps}
use Rattle.std.proofs.lemmas.List.{get_or-map, length-map}
use Rattle.mb_base.specs.declared.point.Box3.{Box3}
use Rattle.mb_base.specs.declared.point.Corner.{Corner}
use Rattle.mb_base.specs.Boxes.{axis, box_of, greatest, least, IsLeastSpan}
use Rattle.mb_base.proofs.Spans.{least_span}
use Rattle.side_terms.specs.Corners.{blank_corner}
use Rattle.side_terms.specs.Boxes.{AreApart}
use Rattle.box_tree.specs.Touching.{end_on, overlap, overlap_on, touches, IsBox}

-- the box of some corners, on an axis
pub span_of : (i : ℕ) (cs : List Corner) → 0 < length cs → IsLeastSpan (map (axis i) cs) (least (map (axis i) cs)) (greatest (map (axis i) cs))
span_of i cs some = least_span (map (axis i) cs) (least (map (axis i) cs)) (greatest (map (axis i) cs)) (omega (arith, some, length-map cs (axis i))) refl refl

-- it holds each corner
pub span_from : (i : ℕ) (cs : List Corner) → 0 < length cs → All (λ c. least (map (axis i) cs) ≤ℤ axis i c) cs
span_from i cs some k d h =
    subst (λ z. least (map (axis i) cs) ≤ℤ z) (get_or-map (axis i) cs k d (pos 0) h) ((span_of i cs some).above k (pos 0) (omega (arith, h, length-map cs (axis i))))

pub span_to : (i : ℕ) (cs : List Corner) → 0 < length cs → All (λ c. axis i c ≤ℤ greatest (map (axis i) cs)) cs
span_to i cs some k d h =
    subst (λ z. z ≤ℤ greatest (map (axis i) cs)) (get_or-map (axis i) cs k d (pos 0) h) ((span_of i cs some).below k (pos 0) (omega (arith, h, length-map cs (axis i))))

-- so it does not end before it begins
span_ordered : (i : ℕ) (cs : List Corner) → 0 < length cs → least (map (axis i) cs) ≤ℤ greatest (map (axis i) cs)
span_ordered i cs some = omega (arith, ints, span_from i cs some 0 blank_corner some, span_to i cs some 0 blank_corner some)

pub box_ordered : (cs : List Corner) → 0 < length cs → IsBox (box_of cs)
box_ordered cs some = record { x = span_ordered 0 cs some; y = span_ordered 1 cs some; z = span_ordered 2 cs some }

-- all corners lie before a span on axis i, or all behind it
abbrev pub AreOutside : ℕ → ℤ → ℤ → List Corner → Type 0
AreOutside i from to cs = All (λ c. axis i c <ℤ from) cs ⊎ All (λ c. to <ℤ axis i c) cs

-- two spans that do not overlap
spans_apart : (low high from to : ℤ) → low ≤ℤ high → from ≤ℤ to → overlap low high from to ≡ false → (high <ℤ from) ⊎ (to <ℤ low)
spans_apart low high from to h k e = elim (cases_Bool (le_z from high)) as (λ _. (high <ℤ from) ⊎ (to <ℤ low)) [
  | inl y ↦ inr (grind (arith, ints, clamps, h, k, e, y))
  | inr n ↦ inl (grind (arith, ints, n))
]

-- so corners whose box does not overlap a span
outside_on : (i : ℕ) (cs : List Corner) (from to : ℤ) → 0 < length cs → from ≤ℤ to →
    overlap (least (map (axis i) cs)) (greatest (map (axis i) cs)) from to ≡ false → AreOutside i from to cs
outside_on i cs from to some h e =
    elim (spans_apart (least (map (axis i) cs)) (greatest (map (axis i) cs)) from to (span_ordered i cs some) h e) as (λ _. AreOutside i from to cs) [
      | inl before ↦ inl (λ k d l. omega (arith, ints, before, span_to i cs some k d l))
      | inr behind ↦ inr (λ k d l. omega (arith, ints, behind, span_from i cs some k d l))
    ]

-- the corners lie outside an area on axis i
abbrev pub AreOutsideOn : ℕ → Box3 → List Corner → Type 0
AreOutsideOn i area cs = AreOutside i (end_on i area.low) (end_on i area.high) cs

-- corners whose box does not touch an area lie outside it on an axis
pub outside : (cs : List Corner) (area : Box3) → 0 < length cs → IsBox area → touches (box_of cs) area ≡ false →
    (AreOutsideOn 0 area cs ⊎ AreOutsideOn 1 area cs) ⊎ AreOutsideOn 2 area cs
outside cs area some whole e =
    let T = (AreOutsideOn 0 area cs ⊎ AreOutsideOn 1 area cs) ⊎ AreOutsideOn 2 area cs in
    let b = box_of cs in
    elim (and_cases (overlap_on 0 b area && overlap_on 1 b area) (overlap_on 2 b area) e) as (λ _. T) [
      | inl f ↦
          elim (and_cases (overlap_on 0 b area) (overlap_on 1 b area) f) as (λ _. T) [
            | inl x ↦ inl (inl (outside_on 0 cs (end_on 0 area.low) (end_on 0 area.high) some whole.x x))
            | inr y ↦ inl (inr (outside_on 1 cs (end_on 1 area.low) (end_on 1 area.high) some whole.y y))
          ]
      | inr z ↦ inr (outside_on 2 cs (end_on 2 area.low) (end_on 2 area.high) some whole.z z)
    ]

-- corners outside the span of others are strictly apart from them
pub outside_apart : (i : ℕ) (from to : ℤ) (cs es : List Corner) → All (λ c. from ≤ℤ axis i c) es → All (λ c. axis i c ≤ℤ to) es → AreOutside i from to cs → AreApart i cs es
outside_apart i from to cs es low high (inl before) = inl (record { below = λ k d h m e l. omega (arith, ints, before k d h, low m e l) })
outside_apart i from to cs es low high (inr behind) = inr (record { below = λ k d h m e l. omega (arith, ints, behind m e l, high k d h) })

-- where the boxes of two lists of corners do not touch, these are strictly apart on an axis
pub boxes_apart : (cs es : List Corner) → 0 < length cs → 0 < length es → touches (box_of cs) (box_of es) ≡ false → (i : ℕ) × (i < 3) × AreApart i cs es
boxes_apart cs es some others e =
    let T = (i : ℕ) × (i < 3) × AreApart i cs es in
    let on : (i : ℕ) → i < 3 → AreOutside i (least (map (axis i) es)) (greatest (map (axis i) es)) cs → T =
    λ i below o. (i, below, outside_apart i (least (map (axis i) es)) (greatest (map (axis i) es)) cs es (span_from i es others) (span_to i es others) o) in
    elim (outside cs (box_of es) some (box_ordered es others) e) as (λ _. T) [
      | inl f ↦ elim f as (λ _. T) [ inl x ↦ on 0 (omega arith) x | inr y ↦ on 1 (omega arith) y ]
      | inr z ↦ on 2 (omega arith) z
    ]
