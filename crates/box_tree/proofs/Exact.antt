-- Boxes that lose nothing in coarse steps: whether they touch an area is told by the steps alone.
use Rattle.std.proofs.Common.{◌≡◌, ◌∙◌, ℕ, ℤ, true, ◌&&◌, List, [], ◌∷◌, length, refl, sym, ap, ap₂, arith}
use Rattle.std.specs.Prelude.{◌≤ℤ◌}
use Rattle.std.specs.Int.{int_max}
use Rattle.std.specs.Int.Signed.{le_z}
use Rattle.std.proofs.lemmas.Bool.{and_parts, and_from}
use Rattle.std.proofs.lemmas.Int.{ints, clamps}
use Rattle.mb_base.specs.declared.point.Box3.{Box3}
use Rattle.box_tree.specs.Coarse.{AreEnds, HasEnds, IsExact, IsWhole, bounds_around, bounds_inside, bounds_meet, fine, fine_box, range_around, range_inside, ranges_meet, step_above, step_below}
use Rattle.box_tree.specs.Touching.{end_on, overlap, overlap_on, touches, IsBox}
use Rattle.box_tree.proofs.Points.{overlap_meets, meets_overlap, test_from_le}
use Rattle.box_tree.proofs.Quantized.{below_keeps, above_keeps, below_tells, above_tells, below_whole, above_whole}

-- what three ends meet, they meet where it follows from that
pub ends_weaker : (P Q : ℤ → Type 0) → ((z : ℤ) → P z → Q z) → (ends : List ℤ) → AreEnds P ends → AreEnds Q ends
ends_weaker P Q f ends e = record { count = e.count; x = f (end_on 0 ends) e.x; y = f (end_on 1 ends) e.y; z = f (end_on 2 ends) e.z }

-- and so for those of a box
pub box_weaker : (P Q : ℤ → Type 0) → ((z : ℤ) → P z → Q z) → (b : Box3) → HasEnds P b → HasEnds Q b
box_weaker P Q f b h = record { low = ends_weaker P Q f b.low h.low; high = ends_weaker P Q f b.high h.high }

-- boxes that touch have bounds that meet
ranges_of_overlap : (shift i : ℕ) (b a : Box3) → overlap_on i b a ≡ true → ranges_meet (range_around shift i b) (range_inside shift i a) ≡ true
ranges_of_overlap shift i b a h =
    let m = overlap_meets (end_on i b.low) (end_on i b.high) (end_on i a.low) (end_on i a.high) h in
    and_from (le_z (step_below shift (end_on i b.low)) (step_below shift (end_on i a.high))) (le_z (step_above shift (end_on i a.low)) (step_above shift (end_on i b.high)))
    (test_from_le (step_below shift (end_on i b.low)) (step_below shift (end_on i a.high))
    (below_keeps shift (end_on i b.low) (end_on i a.high) (omega (arith, ints, m.after_low, m.before_to))))
    (test_from_le (step_above shift (end_on i a.low)) (step_above shift (end_on i b.high))
    (above_keeps shift (end_on i a.low) (end_on i b.high) (omega (arith, ints, m.after_from, m.before_high))))

pub bounds_of_touching : (shift : ℕ) (b a : Box3) → touches b a ≡ true → bounds_meet (bounds_around shift b) (bounds_inside shift a) ≡ true
bounds_of_touching shift b a h =
    let outer = and_parts (overlap_on 0 b a && overlap_on 1 b a) (overlap_on 2 b a) h in
    let inner = and_parts (overlap_on 0 b a) (overlap_on 1 b a) outer.0 in
    let meet = λ (i : ℕ). ranges_meet (range_around shift i b) (range_inside shift i a) in
    and_from (meet 0 && meet 1) (meet 2) (and_from (meet 0) (meet 1) (ranges_of_overlap shift 0 b a inner.0) (ranges_of_overlap shift 1 b a inner.1))
    (ranges_of_overlap shift 2 b a outer.1)

-- intervals that are not empty overlap where neither begins after the other ends
overlap_tested : (low high from to : ℤ) → low ≤ℤ high → from ≤ℤ to → (le_z low to && le_z from high) ≡ overlap low high from to
overlap_tested low high from to some asked = grind (arith, ints, clamps, some, asked)

-- on an axis, a box that loses nothing overlaps an area where their ranges meet
range_tells : (shift i : ℕ) (b a : Box3) → IsWhole shift (end_on i b.low) → IsWhole shift (end_on i b.high) → end_on i b.low ≤ℤ end_on i b.high → overlap_on i a a ≡ true →
    ranges_meet (range_around shift i b) (range_inside shift i a) ≡ overlap_on i b a
range_tells shift i b a low high some asked =
    let area = overlap_meets (end_on i a.low) (end_on i a.high) (end_on i a.low) (end_on i a.high) asked in
    ap₂ (λ x y. le_z x (step_below shift (end_on i a.high)) && le_z (step_above shift (end_on i a.low)) y) (below_whole shift (end_on i b.low) low)
    (above_whole shift (end_on i b.high) high)
    ∙ ap₂ (λ x y. x && y) (below_tells shift (end_on i b.low) (end_on i a.high) low) (above_tells shift (end_on i b.high) (end_on i a.low) high)
    ∙ overlap_tested (end_on i b.low) (end_on i b.high) (end_on i a.low) (end_on i a.high) some (omega (arith, ints, area.after_low, area.before_high))

-- a box that loses nothing touches an area where their bounds meet
pub bounds_tell : (shift : ℕ) (b a : Box3) → IsExact shift b → IsBox b → touches a a ≡ true → bounds_meet (bounds_around shift b) (bounds_inside shift a) ≡ touches b a
bounds_tell shift b a exact solid asked =
    let outer = and_parts (overlap_on 0 a a && overlap_on 1 a a) (overlap_on 2 a a) asked in
    let inner = and_parts (overlap_on 0 a a) (overlap_on 1 a a) outer.0 in
    ap₂ (λ x y. x && y)
    (ap₂ (λ x y. x && y) (range_tells shift 0 b a exact.low.x exact.high.x solid.x inner.0) (range_tells shift 1 b a exact.low.y exact.high.y solid.y inner.1))
    (range_tells shift 2 b a exact.low.z exact.high.z solid.z outer.1)

-- an area that overlaps a box on an axis is not empty there
overlap_self : (i : ℕ) (b a : Box3) → overlap_on i b a ≡ true → overlap_on i a a ≡ true
overlap_self i b a h =
    let m = overlap_meets (end_on i b.low) (end_on i b.high) (end_on i a.low) (end_on i a.high) h in
    meets_overlap (end_on i a.low) (end_on i a.high) (end_on i a.low) (end_on i a.high) (int_max (end_on i b.low) (end_on i a.low))
    (record { after_low = m.after_from; before_high = m.before_to; after_from = m.after_from; before_to = m.before_to })

-- an area that touches a box touches itself
pub touches_self : (b a : Box3) → touches b a ≡ true → touches a a ≡ true
touches_self b a h =
    let outer = and_parts (overlap_on 0 b a && overlap_on 1 b a) (overlap_on 2 b a) h in
    let inner = and_parts (overlap_on 0 b a) (overlap_on 1 b a) outer.0 in
    and_from (overlap_on 0 a a && overlap_on 1 a a) (overlap_on 2 a a)
    (and_from (overlap_on 0 a a) (overlap_on 1 a a) (overlap_self 0 b a inner.0) (overlap_self 1 b a inner.1)) (overlap_self 2 b a outer.1)

-- three ends are the list of them
ends_listed : (ends : List ℤ) → length ends ≡ 3 → end_on 0 ends ∷ end_on 1 ends ∷ end_on 2 ends ∷ [] ≡ ends
ends_listed (x ∷ y ∷ z ∷ []) h = refl
ends_listed [] h = absurd (omega (arith, h))
ends_listed (x ∷ []) h = absurd (omega (arith, h))
ends_listed (x ∷ y ∷ []) h = absurd (omega (arith, h))
ends_listed (x ∷ y ∷ z ∷ w ∷ rest) h = absurd (omega (arith, h))

-- the bounds of a box that loses nothing are the box
pub exact_box : (shift : ℕ) (b : Box3) → IsExact shift b → fine_box shift (bounds_around shift b) ≡ b
exact_box shift b exact =
    let P : List ℤ → List ℤ → Box3 = λ l h. record { low = l; high = h } in
    let low : (z : ℤ) → IsWhole shift z → fine shift (step_below shift z) ≡ z = λ z w. ap (fine shift) (below_whole shift z w) ∙ sym w.exact in
    let high : (z : ℤ) → IsWhole shift z → fine shift (step_above shift z) ≡ z = λ z w. ap (fine shift) (above_whole shift z w) ∙ sym w.exact in
    let three : (p q r x y z : ℤ) → p ≡ x → q ≡ y → r ≡ z → p ∷ q ∷ r ∷ [] ≡ x ∷ y ∷ z ∷ [] = λ p q r x y z e f g. ap (λ s. s ∷ q ∷ r ∷ []) e
    ∙ ap (λ s. x ∷ s ∷ r ∷ []) f ∙ ap (λ s. x ∷ y ∷ s ∷ []) g in
    let lows = three _ _ _ _ _ _ (low (end_on 0 b.low) exact.low.x) (low (end_on 1 b.low) exact.low.y) (low (end_on 2 b.low) exact.low.z) ∙ ends_listed b.low exact.low.count in
    let highs = three _ _ _ _ _ _ (high (end_on 0 b.high) exact.high.x) (high (end_on 1 b.high) exact.high.y) (high (end_on 2 b.high) exact.high.z)
    ∙ ends_listed b.high exact.high.count in
    ap₂ P lows highs
