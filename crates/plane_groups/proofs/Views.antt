-- Triangles of one plane: the axis that they drop, the sides that they face, and how the plane is seen from these.
use Rattle.std.specs.Prelude.{◌≡◌, ◌≢◌, ◌⊎◌, ℕ, zero, suc, ◌*◌, ◌<◌, ℤ, pos, negsuc, neg_ℤ, ◌*ℤ◌, ◌<ℤ◌, List, true, false, Bool, cond, not, ◌&&◌, if◌then◌else◌, int_lt, nat_lt, unsigned_abs}
use Rattle.std.proofs.Common.{arith, refl, sym, ap, ◌∙◌, inl, inr}
use Rattle.std.proofs.Math.Nat.{mul_comm}
use Rattle.std.proofs.Math.IntN.{*ℤ-zero}
use Rattle.std.proofs.lemmas.Bool.{both_ways}
use Rattle.std.proofs.lemmas.Int.{ints, unsigned_abs-mul}
use Rattle.chain_laws.specs.Products.{mul-neg, neg-mul, pos_mul}
use Rattle.face_plane.specs.Planes.{flat_at, flat_point, greatest_axis, orient, point_at, swapped, turn}
use Rattle.face_plane.proofs.Dropped.{all_none, drop_below, turn_on_axis}
use Rattle.mesh_terms.specs.Points.{coordinate_of, cross_on}
use Rattle.sheet_terms.specs.Faces.{Face, drop_of, faces_as, in_plane, is_flat, is_left, normal, seen}
use Rattle.sheet_terms.specs.Twins.{are_same, is_up}
use Rattle.edge_cutting.proofs.Multiples.{cancel}
use Rattle.edge_cutting.proofs.Nearer.{times_less}
use Rattle.plane_groups.specs.Keys.{common_of, front_normal}
use Rattle.plane_groups.proofs.FrontNormals.{IsFront, common_some, front_is, none_test, signed_divisor}
use Rattle.plane_groups.proofs.SameKeys.{in_to_one}
use Rattle.sheet_terms.specs.Cuts.{is_none}

-- sizes times one number have the same greatest
greatest_times : (k x y z : ℕ) → 0 < k → greatest_axis (k * x) (k * y) (k * z) ≡ greatest_axis x y z
greatest_times k x y z some =
    let less : (m n : ℕ) → nat_lt (k * m) (k * n) ≡ nat_lt m n = λ m n. ap (λ t. nat_lt t (k * n)) (mul_comm k m) ∙ ap (λ t. nat_lt (m * k) t) (mul_comm k n)
    ∙ times_less m n k some in
    ap (λ b. if not b && not (nat_lt (k * z) (k * y)) then 2 else if not (nat_lt (k * y) (k * x)) then 1 else 0) (less z x)
    ∙ ap (λ b. if not (nat_lt z x) && not b then 2 else if not (nat_lt (k * y) (k * x)) then 1 else 0) (less z y)
    ∙ ap (λ b. if not (nat_lt z x) && not (nat_lt z y) then 2 else if not b then 1 else 0) (less y x)

-- the axis that a normal drops
abbrev pub dropped : List ℤ → ℕ
dropped n = greatest_axis (unsigned_abs (coordinate_of n 0)) (unsigned_abs (coordinate_of n 1)) (unsigned_abs (coordinate_of n 2))

-- is that of its front normal
dropped_front : (n front : List ℤ) (d : ℤ) → IsFront n front d → dropped n ≡ dropped front
dropped_front n front d h =
    let size : ℕ → ℕ = λ i. unsigned_abs (coordinate_of front i) in
    ap (λ t. greatest_axis t (unsigned_abs (coordinate_of n 1)) (unsigned_abs (coordinate_of n 2))) (ap unsigned_abs h.x ∙ unsigned_abs-mul d (coordinate_of front 0))
    ∙ ap (λ t. greatest_axis (unsigned_abs d * size 0) t (unsigned_abs (coordinate_of n 2))) (ap unsigned_abs h.y ∙ unsigned_abs-mul d (coordinate_of front 1))
    ∙ ap (λ t. greatest_axis (unsigned_abs d * size 0) (unsigned_abs d * size 1) t) (ap unsigned_abs h.z ∙ unsigned_abs-mul d (coordinate_of front 2))
    ∙ greatest_times (unsigned_abs d) (size 0) (size 1) (size 2) (positive d h.some)
  where
    positive : (z : ℤ) → z ≢ pos 0 → 0 < unsigned_abs z
    positive (pos zero) n = absurd (n refl)
    positive (pos (suc m)) n = omega arith
    positive (negsuc m) n = omega arith

module _ (points : List (List ℤ)) (s f : Face) (bent_s : is_flat points s.corners ≡ false) (bent_f : is_flat points f.corners ≡ false) (in_one : in_plane points s f ≡ true) where
  -- both drop the same axis
  pub same_drop : drop_of points f ≡ drop_of points s
  same_drop =
      let n = normal points s in
      let m = normal points f in
      let one = in_to_one points s f bent_s bent_f in_one in
      dropped_front m (front_normal m) (signed_divisor m) (front_is m bent_f) ∙ ap dropped (sym one.normals)
      ∙ sym (dropped_front n (front_normal n) (signed_divisor n) (front_is n bent_s))

-- a number that is some, times a factor: its sign
module _ (x : ℤ) (some : x ≢ pos 0) where
  abbrev signed : Bool → ℕ → ℤ
  signed b g = cond b (pos g) (neg_ℤ (pos g))

  turned : (m : ℕ) → signed false m *ℤ x ≡ neg_ℤ (pos m *ℤ x)
  turned m = neg-mul (pos m) x

  above : (m : ℕ) → 0 < m → pos 0 <ℤ x → pos 0 <ℤ (pos m *ℤ x)
  above m u p = pos_mul (pos m) x (omega (arith, ints, u)) p

  below : (m : ℕ) → 0 < m → x <ℤ pos 0 → (pos m *ℤ x) <ℤ pos 0
  below m u p = let q = pos_mul (pos m) (neg_ℤ x) (omega (arith, ints, u)) (omega (arith, ints, p)) in omega (arith, ints, q, mul-neg (pos m) x)

  less : (z : ℤ) → z <ℤ pos 0 → int_lt z (pos 0) ≡ true
  less z k = grind (arith, ints)

  not_less : (z : ℤ) → pos 0 <ℤ z → int_lt z (pos 0) ≡ false
  not_less z k = grind (arith, ints)

  more_than : (z : ℤ) → pos 0 <ℤ z → int_lt (pos 0) z ≡ true
  more_than z k = grind (arith, ints)

  not_more : (z : ℤ) → z <ℤ pos 0 → int_lt (pos 0) z ≡ false
  not_more z k = grind (arith, ints)

  sign_of : (z : ℤ) → (pos 0 <ℤ z) ⊎ ((z <ℤ pos 0) ⊎ (z ≡ pos 0))
  sign_of (pos zero) = inr (inr refl)
  sign_of (pos (suc n)) = inl (omega (arith, ints))
  sign_of (negsuc n) = inr (inl (omega (arith, ints)))

  -- a multiple is below 0 where one of the factor and the number is
  below_by : (b : Bool) (g : ℕ) → 0 < g → int_lt (signed b g *ℤ x) (pos 0) ≡ are_same b (int_lt x (pos 0))
  below_by b g up = by b (sign_of x)
    where
      by : (b : Bool) → (pos 0 <ℤ x) ⊎ ((x <ℤ pos 0) ⊎ (x ≡ pos 0)) → int_lt (signed b g *ℤ x) (pos 0) ≡ are_same b (int_lt x (pos 0))
      by b (inr (inr e)) = absurd (some e)
      by true (inl p) = not_less (pos g *ℤ x) (above g up p) ∙ sym (not_less x p)
      by false (inl p) = (let q = above g up p in less (signed false g *ℤ x) (omega (arith, ints, q, turned g))) ∙ sym (ap not (not_less x p))
      by true (inr (inl p)) = less (pos g *ℤ x) (below g up p) ∙ sym (less x p)
      by false (inr (inl p)) = (let q = below g up p in not_less (signed false g *ℤ x) (omega (arith, ints, q, turned g))) ∙ sym (ap not (less x p))

  -- of two multiples both are below 0, or neither, where their factors are on one side
  both_below : (bd be : Bool) (g h : ℕ) → 0 < g → 0 < h →
      int_lt (signed be h *ℤ x) (pos 0) ≡ (if are_same bd be then int_lt (signed bd g *ℤ x) (pos 0) else not (int_lt (signed bd g *ℤ x) (pos 0)))
  both_below bd be g h up more =
      below_by be h more ∙ by bd be (int_lt x (pos 0)) ∙ sym (ap (λ t. if are_same bd be then t else not t) (below_by bd g up))
    where
      by : (d e t : Bool) → are_same e t ≡ (if are_same d e then are_same d t else not (are_same d t))
      by true true t = refl
      by true false t = refl
      by false true true = refl
      by false true false = refl
      by false false t = refl

  -- a multiple that is turned over where another is below 0 is above 0 where their factors are on one side
  side_same : (bd be : Bool) (g h : ℕ) → 0 < g → 0 < h →
      int_lt (pos 0) (cond (int_lt (signed bd g *ℤ x) (pos 0)) (neg_ℤ (signed be h *ℤ x)) (signed be h *ℤ x)) ≡ are_same bd be
  side_same bd be g h up more = by (sign_of x) bd be
    where
      test : (u v : ℤ) (s t : Bool) → int_lt u (pos 0) ≡ s → int_lt (pos 0) (cond s (neg_ℤ v) v) ≡ t → int_lt (pos 0) (cond (int_lt u (pos 0)) (neg_ℤ v) v) ≡ t
      test u v s t e f = ap (λ b. int_lt (pos 0) (cond b (neg_ℤ v) v)) e ∙ f

      by : (pos 0 <ℤ x) ⊎ ((x <ℤ pos 0) ⊎ (x ≡ pos 0)) → (bd be : Bool) →
          int_lt (pos 0) (cond (int_lt (signed bd g *ℤ x) (pos 0)) (neg_ℤ (signed be h *ℤ x)) (signed be h *ℤ x)) ≡ are_same bd be
      by (inr (inr e)) bd be = absurd (some e)
      by (inl p) true true = test (pos g *ℤ x) (pos h *ℤ x) false true (not_less (pos g *ℤ x) (above g up p)) (more_than (pos h *ℤ x) (above h more p))
      by (inl p) true false =
          test (pos g *ℤ x) (signed false h *ℤ x) false false (not_less (pos g *ℤ x) (above g up p))
          (let q = above h more p in not_more (signed false h *ℤ x) (omega (arith, ints, q, turned h)))
      by (inl p) false true =
          test (signed false g *ℤ x) (pos h *ℤ x) true false (let q = above g up p in less (signed false g *ℤ x) (omega (arith, ints, q, turned g)))
          (let q = above h more p in not_more (neg_ℤ (pos h *ℤ x)) (omega (arith, ints, q)))
      by (inl p) false false =
          test (signed false g *ℤ x) (signed false h *ℤ x) true true (let q = above g up p in less (signed false g *ℤ x) (omega (arith, ints, q, turned g)))
          (let q = above h more p in more_than (neg_ℤ (signed false h *ℤ x)) (omega (arith, ints, q, turned h)))
      by (inr (inl p)) true true =
          test (pos g *ℤ x) (pos h *ℤ x) true true (less (pos g *ℤ x) (below g up p)) (let q = below h more p in more_than (neg_ℤ (pos h *ℤ x)) (omega (arith, ints, q)))
      by (inr (inl p)) true false =
          test (pos g *ℤ x) (signed false h *ℤ x) true false (less (pos g *ℤ x) (below g up p))
          (let q = below h more p in not_more (neg_ℤ (signed false h *ℤ x)) (omega (arith, ints, q, turned h)))
      by (inr (inl p)) false true =
          test (signed false g *ℤ x) (pos h *ℤ x) false false (let q = below g up p in not_less (signed false g *ℤ x) (omega (arith, ints, q, turned g)))
          (not_more (pos h *ℤ x) (below h more p))
      by (inr (inl p)) false false =
          test (signed false g *ℤ x) (signed false h *ℤ x) false true (let q = below g up p in not_less (signed false g *ℤ x) (omega (arith, ints, q, turned g)))
          (let q = below h more p in more_than (signed false h *ℤ x) (omega (arith, ints, q, turned h)))

-- a turn of exchanged places
turn_swapped : (a b c : ℤ × ℤ) → turn (swapped a) (swapped b) (swapped c) ≡ neg_ℤ (turn a b c)
turn_swapped a b c = omega (arith, ints)

-- a coordinate of a normal by that of its front normal
coordinate_by : (n front : List ℤ) (d : ℤ) → IsFront n front d → (i : ℕ) → i < 3 → coordinate_of n i ≡ d *ℤ coordinate_of front i
coordinate_by n front d h zero low = h.x
coordinate_by n front d h (suc zero) low = h.y
coordinate_by n front d h (suc (suc zero)) low = h.z
coordinate_by n front d h (suc (suc (suc i))) low = absurd (omega (arith, low))

module _ (points : List (List ℤ)) (s f : Face) (bent_s : is_flat points s.corners ≡ false) (bent_f : is_flat points f.corners ≡ false) (in_one : in_plane points s f ≡ true) where
  -- the axis that both drop, and how far the front normal leads along it
  abbrev axis : ℕ
  axis = drop_of points s

  abbrev lead : ℤ
  lead = coordinate_of (front_normal (normal points s)) axis

  axis_low : axis < 3
  axis_low = drop_below (point_at points s.corners.0) (point_at points s.corners.1) (point_at points s.corners.2)

  -- each normal leads a multiple of that
  own_lead : coordinate_of (normal points s) axis ≡ signed_divisor (normal points s) *ℤ lead
  own_lead = let n = normal points s in coordinate_by n (front_normal n) (signed_divisor n) (front_is n bent_s) axis axis_low

  other_lead : coordinate_of (normal points f) axis ≡ signed_divisor (normal points f) *ℤ lead
  other_lead =
      let m = normal points f in
      let one = in_to_one points s f bent_s bent_f in_one in
      coordinate_by m (front_normal m) (signed_divisor m) (front_is m bent_f) axis axis_low ∙ ap (λ l. signed_divisor m *ℤ coordinate_of l axis) (sym one.normals)

  -- which is some
  lead_some : lead ≢ pos 0
  lead_some e = gone (own_lead ∙ ap (λ t. signed_divisor (normal points s) *ℤ t) e ∙ *ℤ-zero (signed_divisor (normal points s)))
    where
      gone : coordinate_of (normal points s) (drop_of points s) ≡ pos 0 → ⊥
      gone h =
          let a = point_at points s.corners.0 in
          let b = point_at points s.corners.1 in
          let c = point_at points s.corners.2 in
          let none = all_none (cross_on 1 2 a b c) (cross_on 2 0 a b c) (cross_on 0 1 a b c) h in
          both_ways (is_none (normal points s)) bent_s (none_test (normal points s) none.x_none none.y_none none.z_none)

  -- a triangle of the plane turns left as it is seen from the side of s where both face front, or neither
  pub side_by_front : faces_as points s f ≡ are_same (is_up (normal points s)) (is_up (normal points f))
  side_by_front =
      let n = normal points s in
      let m = normal points f in
      let p = point_at points f.corners.0 in
      let q = point_at points f.corners.1 in
      let r = point_at points f.corners.2 in
      ap (λ b. b && is_left (seen points s) f.corners) in_one
      ∙ ap (int_lt (pos 0)) (by (int_lt (coordinate_of n axis) (pos 0)) (flat_point axis p) (flat_point axis q) (flat_point axis r)
      ∙ ap (λ t. cond (int_lt (coordinate_of n axis) (pos 0)) (neg_ℤ t) t) (turn_on_axis axis p q r axis_low ∙ other_lead))
      ∙ ap (λ t. int_lt (pos 0) (cond (int_lt t (pos 0)) (neg_ℤ (signed_divisor m *ℤ lead)) (signed_divisor m *ℤ lead))) own_lead
      ∙ side_same lead lead_some (is_up n) (is_up m) (common_of n) (common_of m) (common_some n bent_s) (common_some m bent_f)
    where
      by : (t : Bool) (a b c : ℤ × ℤ) → turn (cond t (swapped a) a) (cond t (swapped b) b) (cond t (swapped c) c) ≡ cond t (neg_ℤ (turn a b c)) (turn a b c)
      by true a b c = turn_swapped a b c
      by false a b c = refl

  -- so the plane as it is seen from the side of one of them is that as it is seen from the side of the other, or that from behind
  pub seen_by_front : (v : ℕ) → seen points f v ≡ (if are_same (is_up (normal points s)) (is_up (normal points f)) then seen points s v else swapped (seen points s v))
  seen_by_front v =
      let n = normal points s in
      let m = normal points f in
      let p = point_at points v in
      ap (λ d. flat_at d (int_lt (coordinate_of m d) (pos 0)) p) (same_drop points s f bent_s bent_f in_one)
      ∙ ap (λ t. flat_at axis (int_lt t (pos 0)) p) other_lead
      ∙ ap (λ t. flat_at axis t p) (both_below lead lead_some (is_up n) (is_up m) (common_of n) (common_of m) (common_some n bent_s) (common_some m bent_f))
      ∙ ap (λ t. flat_at axis (if are_same (is_up n) (is_up m) then int_lt t (pos 0) else not (int_lt t (pos 0))) p) (sym own_lead)
      ∙ by (are_same (is_up n) (is_up m)) (int_lt (coordinate_of n axis) (pos 0)) (flat_point axis p)
    where
      by : (b t : Bool) (a : ℤ × ℤ) → cond (if b then t else not t) (swapped a) a ≡ (if b then cond t (swapped a) a else swapped (cond t (swapped a) a))
      by true t a = refl
      by false true (u, w) = refl
      by false false (u, w) = refl

  -- whether the two other axes are exchanged as the plane is seen from the side of one, by whether they are as it is seen from that of the other
  pub turned_by_front : int_lt (coordinate_of (normal points f) (drop_of points f)) (pos 0)
      ≡ (if are_same (is_up (normal points s)) (is_up (normal points f)) then int_lt (coordinate_of (normal points s) (drop_of points s)) (pos 0)
      else not (int_lt (coordinate_of (normal points s) (drop_of points s)) (pos 0)))
  turned_by_front =
      let n = normal points s in
      let m = normal points f in
      ap (λ d. int_lt (coordinate_of m d) (pos 0)) (same_drop points s f bent_s bent_f in_one)
      ∙ ap (λ t. int_lt t (pos 0)) other_lead
      ∙ both_below lead lead_some (is_up n) (is_up m) (common_of n) (common_of m) (common_some n bent_s) (common_some m bent_f)
      ∙ ap (λ t. if are_same (is_up n) (is_up m) then int_lt t (pos 0) else not (int_lt t (pos 0))) (sym own_lead)

  -- a triangle of the plane turns left or right there
  pub turns_there : orient (seen points s) f.corners.0 f.corners.1 f.corners.2 ≡ pos 0 → ⊥
  turns_there e =
      let m = normal points f in
      let p = point_at points f.corners.0 in
      let q = point_at points f.corners.1 in
      let r = point_at points f.corners.2 in
      let exchange : Bool = int_lt (coordinate_of (normal points s) axis) (pos 0) in
      let none : cond exchange (neg_ℤ (signed_divisor m *ℤ lead)) (signed_divisor m *ℤ lead) ≡ pos 0 =
      ap (λ t. cond exchange (neg_ℤ t) t) (sym (turn_on_axis axis p q r axis_low ∙ other_lead)) ∙ sym (by exchange (flat_point axis p) (flat_point axis q) (flat_point axis r)) ∙ e in
      lead_some (cancel (signed_divisor m) lead (pos 0) (front_is m bent_f).some (nothing exchange (signed_divisor m *ℤ lead) none ∙ sym (*ℤ-zero (signed_divisor m))))
    where
      by : (t : Bool) (a b c : ℤ × ℤ) → turn (cond t (swapped a) a) (cond t (swapped b) b) (cond t (swapped c) c) ≡ cond t (neg_ℤ (turn a b c)) (turn a b c)
      by true a b c = turn_swapped a b c
      by false a b c = refl

      nothing : (t : Bool) (x : ℤ) → cond t (neg_ℤ x) x ≡ pos 0 → x ≡ pos 0
      nothing true x h = omega (arith, ints, h)
      nothing false x h = h
