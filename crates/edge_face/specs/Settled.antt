-- Settled points stay in the box of an edge whose ends lie on the grid.
use Rattle.std.specs.Prelude.{◌≡◌, ℕ, ◌⊎◌, ℤ, ◌*ℤ◌, ◌≤ℤ◌, List, [], ◌∷◌}
use Rattle.std.proofs.Common.{arith, refl, sym, subst, inl, inr}
use Rattle.std.proofs.lemmas.Int.{ints, by_lt_z}
use Rattle.mb_base.specs.declared.TheConstants.{UNIT}
use Rattle.mb_base.specs.declared.point.Corner.{Corner}
use Rattle.side_terms.specs.Fine.{IsFine, IsWeight, LiesBetween}
use Rattle.side_terms.specs.Corners.{axis, blank_corner, IsFineCorner, AllFine}
use Rattle.shadow_kernels.specs.ShadowLaws.{IsInHull}
use Rattle.shadow_kernels.specs.declared.Spot.{Spot}
use Rattle.shadow_kernels.specs.Spots.{Between, gap}
use Rattle.side_terms.specs.Boxes.{IsInBox}
use Rattle.shadow_kernels.specs.Bounds.{IsFineSpot, corner_in_box, box_between, hull_fine}
use Rattle.shadow_kernels.specs.Hulls.{StaysBetween}
use Rattle.shadow_kernels.specs.Lifted.{gap_weight}
use Rattle.edge_face.specs.Crossings.{Settle, point_between, p_point, q_point}
use Rattle.edge_face.specs.CrossingLaws.{IsSettling}
use Rattle.edge_face.specs.Parts.{both_of}
use Rattle.side_terms.specs.Corners.{IsWhole, IsWholeCorner, AllWhole}
use Rattle.side_terms.specs.Boxes.{IsPointIn}

-- a whole number of grid steps settles to that number
settled_whole : (settle : Settle) → IsSettling settle → (x : ℤ) → IsFine x → (h : IsWhole x) → settle x ≡ h.steps
settled_whole settle s x fine h = subst (λ z. settle z ≡ h.steps) (sym h.value) (s.units h.steps (subst IsFine h.value fine))

-- a value between two whole numbers of steps settles between them
settled_low : (settle : Settle) → IsSettling settle → (x z : ℤ) → IsFine x → IsFine z → IsWhole x → x ≤ℤ z → x ≤ℤ (UNIT *ℤ settle z)
settled_low settle s x z fx fz h l =
    let e = settled_whole settle s x fx h in let m = s.monotone x z fx fz l in let v = h.value in omega (arith, ints, e, m, v)

settled_high : (settle : Settle) → IsSettling settle → (y z : ℤ) → IsFine y → IsFine z → IsWhole y → z ≤ℤ y → (UNIT *ℤ settle z) ≤ℤ y
settled_high settle s y z fy fz h l =
    let e = settled_whole settle s y fy h in let m = s.monotone z y fz fy l in let v = h.value in omega (arith, ints, e, m, v)

-- what lies in the box of an edge lies between its ends
between_ends : (i : ℕ) (a b : Corner) (z : ℤ) → IsInBox i (a ∷ b ∷ []) z → LiesBetween (axis i a) (axis i b) z
between_ends i a b z h = by_lt_z (axis i b) (axis i a)
    (λ l. inr (
      h.low (axis i b) (both_of (λ c. axis i b ≤ℤ axis i c) a b (omega (arith, ints)) (omega (arith, ints))),
      h.high (axis i a) (both_of (λ c. axis i c ≤ℤ axis i a) a b (omega (arith, ints)) (omega (arith, ints))),
    ))
    (λ l. inl (
      h.low (axis i a) (both_of (λ c. axis i a ≤ℤ axis i c) a b (omega (arith, ints)) (omega (arith, ints))),
      h.high (axis i b) (both_of (λ c. axis i c ≤ℤ axis i b) a b (omega (arith, ints)) (omega (arith, ints))),
    ))

-- a value between the ends of an edge settles between them
settled_box : (settle : Settle) → IsSettling settle → (i : ℕ) (a b : Corner) (z : ℤ) → IsFine (axis i a) → IsFine (axis i b) → IsFine z → IsWhole (axis i a) → IsWhole (axis i b) →
    IsInBox i (a ∷ b ∷ []) z → IsInBox i (a ∷ b ∷ []) (UNIT *ℤ settle z)
settled_box settle s i a b z fa fb fz wa wb h =
    box_between i (a ∷ b ∷ []) (axis i a) (axis i b) (UNIT *ℤ settle z) (corner_in_box i (a ∷ b ∷ []) 0 (omega arith))
    (corner_in_box i (a ∷ b ∷ []) 1 (omega arith)) (by (between_ends i a b z h))
  where
    by : LiesBetween (axis i a) (axis i b) z → LiesBetween (axis i a) (axis i b) (UNIT *ℤ settle z)
    by (inl k) = inl (settled_low settle s (axis i a) z fa fz wa k.0, settled_high settle s (axis i b) z fb fz wb k.1)
    by (inr k) = inr (settled_low settle s (axis i b) z fb fz wb k.0, settled_high settle s (axis i a) z fa fz wa k.1)

-- what lies between two fine values is fine
pub lies_fine : (u v z : ℤ) → IsFine u → IsFine v → LiesBetween u v z → IsFine z
lies_fine u v z fu fv (inl h) = record { low = omega (arith, ints, fu.low, h.0); high = omega (arith, ints, fv.high, h.1) }
lies_fine u v z fu fv (inr h) = record { low = omega (arith, ints, fv.low, h.0); high = omega (arith, ints, fu.high, h.1) }

-- so is a value between them
pub between_fine : (w : Between) → StaysBetween w → (u v a b : ℤ) → IsFine u → IsFine v → IsWeight a → IsWeight b → IsFine (w u v a b)
between_fine w stays u v a b fu fv wa wb = lies_fine u v (w u v a b) fu fv (stays.within u v a b fu fv wa wb)

-- what holds of two spots holds of either
either : (X : Spot → Type 0) (d u : Spot) → X d → X u → (s : Spot) → (s ≡ d) ⊎ (s ≡ u) → X s
either X d u h k s (inl e) = subst X (sym e) h
either X d u h k s (inr e) = subst X (sym e) k

-- a value between two spots, in the box of an edge whose ends lie on the grid: settled it lies there too
module _ (w : Between) (stays : StaysBetween w) (settle : Settle) (settling : IsSettling settle) (a b : Corner) (d u : Spot) (fd : IsFineSpot d) (fu : IsFineSpot u) where
  value_inside : (i : ℕ) (value : Spot → ℤ) → IsFine (axis i a) → IsFine (axis i b) → IsWhole (axis i a) → IsWhole (axis i b) → IsFine (value d) →
      IsFine (value u) → IsInBox i (a ∷ b ∷ []) (value d) →
      IsInBox i (a ∷ b ∷ []) (value u) → IsInBox i (a ∷ b ∷ []) (UNIT *ℤ settle (w (value d) (value u) (gap d.pz d.qz) (gap u.pz u.qz)))
  value_inside i value fa fb wa wb gd gu bd bu =
      let g = gap d.pz d.qz in
      let h = gap u.pz u.qz in
      let z = w (value d) (value u) g h in
      let wg = gap_weight d.pz d.qz fd.pz fd.qz in
      let wh = gap_weight u.pz u.qz fu.pz fu.qz in
      settled_box settle settling i a b z fa fb (between_fine w stays (value d) (value u) g h gd gu wg wh) wa wb
      (box_between i (a ∷ b ∷ []) (value d) (value u) z bd bu (stays.within (value d) (value u) g h gd gu wg wh))

  -- so does a point of such values
  point_inside : (x y z : Spot → ℤ) → AllFine (a ∷ b ∷ []) → AllWhole (a ∷ b ∷ []) → ((s : Spot) → IsFineSpot s → IsFine (x s) × IsFine (y s) × IsFine (z s)) →
      ((s : Spot) → (s ≡ d) ⊎ (s ≡ u) → IsInBox 0 (a ∷ b ∷ []) (x s) × IsInBox 1 (a ∷ b ∷ []) (y s) × IsInBox 2 (a ∷ b ∷ []) (z s)) →
      IsPointIn (a ∷ b ∷ []) (point_between w settle x y z d u)
  point_inside x y z fine whole fits inside =
      let fa : IsFineCorner a = fine 0 blank_corner (omega arith) in
      let fb : IsFineCorner b = fine 1 blank_corner (omega arith) in
      let wa : IsWholeCorner a = whole 0 blank_corner (omega arith) in
      let wb : IsWholeCorner b = whole 1 blank_corner (omega arith) in
      let gd = fits d fd in
      let gu = fits u fu in
      let bd = inside d (inl refl) in
      let bu = inside u (inr refl) in
      record {
        x = value_inside 0 x fa.x fb.x wa.x wb.x gd.0 gu.0 bd.0 bu.0;
        y = value_inside 1 y fa.y fb.y wa.y wb.y gd.1 gu.1 bd.1 bu.1;
        z = value_inside 2 z fa.z fb.z wa.z wb.z gd.2 gu.2 bd.2 bu.2;
      }

-- the point between two spots in the boxes lies in the box of P's edge
pub p_point_inside : (w : Between) → StaysBetween w → (settle : Settle) → IsSettling settle → (a b : Corner) (qs : List Corner) (d u : Spot) →
    AllFine (a ∷ b ∷ []) → AllFine qs → AllWhole (a ∷ b ∷ []) → IsInHull (a ∷ b ∷ []) qs d → IsInHull (a ∷ b ∷ []) qs u → IsPointIn (a ∷ b ∷ []) (p_point w settle d u)
unfolding p_point
p_point_inside w stays settle s a b qs d u fp fq wp hd hu =
    let fd = hull_fine (a ∷ b ∷ []) qs d fp fq hd in
    let fu = hull_fine (a ∷ b ∷ []) qs u fp fq hu in
    point_inside w stays settle s a b d u fd fu (λ s. s.x) (λ s. s.py) (λ s. s.pz) fp wp (λ s f. (f.x, f.py, f.pz))
    (λ s at. let h = either (IsInHull (a ∷ b ∷ []) qs) d u hd hu s at in (h.px, h.py, h.pz))

-- and in that of Q's edge
pub q_point_inside : (w : Between) → StaysBetween w → (settle : Settle) → IsSettling settle → (c d : Corner) (ps : List Corner) (t u : Spot) →
    AllFine ps → AllFine (c ∷ d ∷ []) → AllWhole (c ∷ d ∷ []) → IsInHull ps (c ∷ d ∷ []) t → IsInHull ps (c ∷ d ∷ []) u → IsPointIn (c ∷ d ∷ []) (q_point w settle t u)
unfolding q_point
q_point_inside w stays settle s c d ps t u fp fq wq ht hu =
    let ft = hull_fine ps (c ∷ d ∷ []) t fp fq ht in
    let fu = hull_fine ps (c ∷ d ∷ []) u fp fq hu in
    point_inside w stays settle s c d t u ft fu (λ s. s.x) (λ s. s.qy) (λ s. s.qz) fq wq (λ s f. (f.x, f.qy, f.qz))
    (λ s at. let h = either (IsInHull ps (c ∷ d ∷ [])) t u ht hu s at in (h.qx, h.qy, h.qz))
