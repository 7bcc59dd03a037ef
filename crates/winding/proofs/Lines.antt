-- The shadows of a corner with the faces that do not touch a half of the vertical line through it.
use Rattle.std.proofs.Common.{◌≡◌, ◌<◌, ℕ, ℤ, pos, neg_ℤ, true, false, List, [], ◌∷◌, get_or, length, Option, Some, None, IfSome, refl, ap, arith, inl, inr}
use Rattle.std.specs.Prelude.{◌≤ℤ◌, ◌<ℤ◌}
use Rattle.std.specs.List.{All}
use Rattle.std.proofs.lemmas.Int.{ints}
use Rattle.std.proofs.lemmas.List.Elements.{All-cons, All-nil}
use Rattle.mb_base.specs.declared.point.Corner.{Corner}
use Rattle.mb_base.specs.Boxes.{box_of}
use Rattle.side_terms.specs.Fine.{fine_edge}
use Rattle.side_terms.specs.Corners.{axis, blank_corner, AllFine, IsFineCorner}
use Rattle.side_terms.specs.Boxes.{IsBelow, AreApart}
use Rattle.shadow_kernels.specs.declared.Meet.{Meet}
use Rattle.shadow_kernels.specs.Counts.{shadow_of}
use Rattle.shadow_kernels.specs.ShadowLaws.{ShadowTest, ShadowLaws}
use Rattle.box_tree.specs.Touching.{IsBox, touches}
use Rattle.lean.proofs.Apart.{AreOutside, outside, outside_apart}
use Rattle.crossings.specs.Apart.{apart_back}
use Rattle.winding.specs.Lines.{line_at, HasShadowsIn}

-- an answer that is not above has no shadow
not_above : (o : Option Meet) → IfSome o (λ a. a.above ≡ false) → shadow_of o ≡ pos 0
not_above None h = refl
not_above (Some m) h = rw h refl

-- what holds of a corner holds of all corners of a list with it alone
alone : (P : Corner → Type 0) (c : Corner) → P c → All P (c ∷ [])
alone P c h = All-cons P c [] h (All-nil P)

-- corners outside the span of one coordinate are strictly apart from its corner
apart_from : (i : ℕ) (c : Corner) (face : List Corner) → AreOutside i (axis i c) (axis i c) face → AreApart i face (c ∷ [])
apart_from i c face o =
    outside_apart i (axis i c) (axis i c) face (c ∷ []) (alone (λ d. axis i c ≤ℤ axis i d) c (omega (arith, ints))) (alone (λ d. axis i d ≤ℤ axis i c) c (omega (arith, ints))) o

-- a part of the line is a box
line_whole : (c : Corner) (low high : ℤ) → low ≤ℤ high → IsBox (line_at c low high)
line_whole c low high h = record { x = omega (arith, ints); y = omega (arith, ints); z = h }

-- faces that touch the line nowhere below a corner of P have no shadow with it
pub shadows_below : (test : ShadowTest) (p : Corner) → ShadowLaws 1 3 test → IsFineCorner p →
    HasShadowsIn (line_at p (neg_ℤ fine_edge) (axis 2 p)) (λ face. shadow_of (test (p ∷ []) face))
shadows_below test p laws fine = record { elsewhere = elsewhere }
  where
    ps : List Corner
    ps = p ∷ []

    none : (face : List Corner) (i : ℕ) → length face ≡ 3 → AllFine face → i < 2 → AreOutside i (axis i p) (axis i p) face → shadow_of (test ps face) ≡ pos 0
    none face i three face_fine less o =
        ap shadow_of (laws.apart ps face i refl three (alone IsFineCorner p fine) face_fine (omega (arith, less)) (apart_back i face ps (apart_from i p face o)))

    higher : (face : List Corner) → length face ≡ 3 → AllFine face → All (λ c. axis 2 p <ℤ axis 2 c) face → shadow_of (test ps face) ≡ pos 0
    higher face three face_fine above = not_above (test ps face) (by (test ps face) (laws.side ps face 2 refl three (alone IsFineCorner p fine) face_fine refl))
      where
        by : (o : Option Meet) → IfSome o (λ a. (IsBelow 2 ps face → a.above ≡ false) × (IsBelow 2 face ps → a.above ≡ true)) → IfSome o (λ a. a.above ≡ false)
        by None h = tt
        by (Some m) h = h.0 (record { below = alone (λ c. All (λ q. axis 2 c <ℤ axis 2 q) face) p above })

    elsewhere : (face : List Corner) → length face ≡ 3 → AllFine face → touches (box_of face) (line_at p (neg_ℤ fine_edge) (axis 2 p)) ≡ false → shadow_of (test ps face) ≡ pos 0
    elsewhere face three face_fine far =
        let line = line_at p (neg_ℤ fine_edge) (axis 2 p) in
        elim (outside face line (omega (arith, three)) (line_whole p (neg_ℤ fine_edge) (axis 2 p) fine.z.low) far) as (λ _. shadow_of (test ps face) ≡ pos 0) [
          | inl f ↦ elim f as (λ _. shadow_of (test ps face) ≡ pos 0) [ inl x ↦ none face 0 three face_fine (omega arith) x | inr y ↦ none face 1 three face_fine (omega arith) y ]
          | inr z ↦
              elim z as (λ _. shadow_of (test ps face) ≡ pos 0) [
                | inl before ↦ let c = face_fine 0 blank_corner (omega (arith, three)) in absurd (omega (arith, ints, before 0 blank_corner (omega (arith, three)), c.z.low))
                | inr behind ↦ higher face three face_fine behind
              ]
        ]

-- faces of P that touch the line nowhere above a corner have no shadow on it
pub shadows_above : (test : ShadowTest) (q : Corner) → ShadowLaws 3 1 test → IsFineCorner q → HasShadowsIn (line_at q (axis 2 q) fine_edge) (λ face. shadow_of (test face (q ∷ [])))
shadows_above test q laws fine = record { elsewhere = elsewhere }
  where
    qs : List Corner
    qs = q ∷ []

    none : (face : List Corner) (i : ℕ) → length face ≡ 3 → AllFine face → i < 2 → AreOutside i (axis i q) (axis i q) face → shadow_of (test face qs) ≡ pos 0
    none face i three face_fine less o = ap shadow_of (laws.apart face qs i three refl face_fine (alone IsFineCorner q fine) (omega (arith, less)) (apart_from i q face o))

    lower : (face : List Corner) → length face ≡ 3 → AllFine face → All (λ c. axis 2 c <ℤ axis 2 q) face → shadow_of (test face qs) ≡ pos 0
    lower face three face_fine below = not_above (test face qs) (by (test face qs) (laws.side face qs 2 three refl face_fine (alone IsFineCorner q fine) refl))
      where
        by : (o : Option Meet) → IfSome o (λ a. (IsBelow 2 face qs → a.above ≡ false) × (IsBelow 2 qs face → a.above ≡ true)) → IfSome o (λ a. a.above ≡ false)
        by None h = tt
        by (Some m) h = h.0 (record { below = λ k d l. alone (λ c. axis 2 (get_or face k d) <ℤ axis 2 c) q (below k d l) })

    elsewhere : (face : List Corner) → length face ≡ 3 → AllFine face → touches (box_of face) (line_at q (axis 2 q) fine_edge) ≡ false → shadow_of (test face qs) ≡ pos 0
    elsewhere face three face_fine far =
        let line = line_at q (axis 2 q) fine_edge in
        elim (outside face line (omega (arith, three)) (line_whole q (axis 2 q) fine_edge fine.z.high) far) as (λ _. shadow_of (test face qs) ≡ pos 0) [
          | inl f ↦ elim f as (λ _. shadow_of (test face qs) ≡ pos 0) [ inl x ↦ none face 0 three face_fine (omega arith) x | inr y ↦ none face 1 three face_fine (omega arith) y ]
          | inr z ↦
              elim z as (λ _. shadow_of (test face qs) ≡ pos 0) [
                | inl before ↦ lower face three face_fine before
                | inr behind ↦ let c = face_fine 0 blank_corner (omega (arith, three)) in absurd (omega (arith, ints, behind 0 blank_corner (omega (arith, three)), c.z.high))
              ]
        ]
