-- An edge of Q and a face of P: space turned through the origin makes of them an edge of P and a face of Q, and turns the number.
use Rattle.std.specs.Prelude.{◌≡◌, ℤ, pos, neg_ℤ, ◌+ℤ◌, ◌-ℤ◌, ◌*ℤ◌, ◌≤ℤ◌, Bool, true, false, if◌then◌else◌, [], ◌∷◌}
use Rattle.std.specs.Ordering.{int_eq}
use Rattle.std.proofs.Common.{arith, refl, sym, ap, ◌∙◌}
use Rattle.std.proofs.lemmas.Int.{ints}
use Rattle.std.proofs.Math.IntN.{*ℤ_comm}
use Rattle.chain_laws.specs.Products.{mul-neg, neg-mul}
use Rattle.mb_base.specs.declared.point.Corner.{Corner}
use Rattle.side_terms.specs.Corners.{axis}
use Rattle.shadow_kernels.specs.Spots.{Between}
use Rattle.shadow_kernels.specs.Shadows.{edge_edge, face_vertex}
use Rattle.edge_face.specs.Crossings.{Settle, edge_number, face_edge_crossing, number_of, q_point}
use Rattle.edge_face.specs.Crossings as crossings
use Rattle.edge_face.specs.Laws.{lift}
use Rattle.plane_laws.specs.Above.{above_turned, opposite}
use Rattle.plane_laws.specs.Decisions.{Vector, edges_normal, face_normal, is_above, scalar, way}
use Rattle.exact_kernels.specs.Exact.{exact, exact_beyond, exact_edges, position}
use Rattle.exact_kernels.specs.Marks.{mark10}
use Rattle.solid_terms.specs.Solids.{volume}
use Rattle.space_laws.specs.Lexical.{height_or_lead}
use Rattle.solid_laws.specs.Bounds.{IsBounded}
use Rattle.solid_laws.specs.Faces.{edge_shadow}
use Rattle.solid_laws.specs.Mirror.{back_is, bounded_mirror, mirror, normal_mirror, same_vector, shadow10_mirror, turned_product, volume_mirror}
use Rattle.solid_laws.specs.Moved.{moved_volume}
use Rattle.crossing_laws.specs.EdgeHair.{volume_height}
use Rattle.crossing_laws.specs.EdgePairs.{back_shadow, bits_back, edges_shade, edges_shade_is}
use Rattle.crossing_laws.specs.FiveSigns.{five_sign_turned}
use Rattle.crossing_laws.specs.Numbers.{number_is}
use Rattle.crossing_laws.specs.Through.{moved_pair, moved_through, pair_back, through_moved, volume_back}

-- a number that is not 0 stays so when it is turned
eq_turned : (z : ℤ) → int_eq (neg_ℤ z) (pos 0) ≡ int_eq z (pos 0)
eq_turned z = grind (arith, ints)

-- the number that decides, of the normal and the height turned
lead_turned : (n : Vector) (h : ℤ) → height_or_lead (opposite n) (neg_ℤ h) ≡ neg_ℤ (height_or_lead n h)
lead_turned n h = rw (eq_turned h, eq_turned n.x, eq_turned n.y) (by (int_eq h (pos 0)) (int_eq n.x (pos 0)) (int_eq n.y (pos 0))) where
  by : (r s t : Bool) → (if r then (if s then (if t then neg_ℤ n.z else neg_ℤ n.y) else neg_ℤ n.x) else neg_ℤ h) ≡ neg_ℤ
      (if r then (if s then (if t then n.z else n.y) else n.x) else h)
  by true true true = refl
  by true true false = refl
  by true false t = refl
  by false s t = refl

-- of the height alone
lead_back : (n : Vector) (h : ℤ) → height_or_lead n (neg_ℤ h) ≡ neg_ℤ (height_or_lead (opposite n) h)
lead_back n h = rw (eq_turned h, eq_turned n.x, eq_turned n.y) (by (int_eq h (pos 0)) (int_eq n.x (pos 0)) (int_eq n.y (pos 0))) where
  twice : (z : ℤ) → z ≡ neg_ℤ (neg_ℤ z)
  twice z = omega (arith, ints)

  by : (r s t : Bool) → (if r then (if s then (if t then n.z else n.y) else n.x) else neg_ℤ h) ≡ neg_ℤ
      (if r then (if s then (if t then neg_ℤ n.z else neg_ℤ n.y) else neg_ℤ n.x) else h)
  by true true true = twice n.z
  by true true false = twice n.y
  by true false t = twice n.x
  by false s t = refl

-- the normal of two edges, both turned through the origin
pair_normal : (a b c d : Corner) →
    edges_normal (position (mirror a)) (position (mirror b)) (position (mirror c)) (position (mirror d)) ≡ edges_normal (position a) (position b) (position c) (position d)
pair_normal a b c d =
    same_vector _ _ _ _ _ _
    (minus _ _ _ _ (turned_product (axis 1 b) (axis 1 a) (axis 2 d) (axis 2 c)) (turned_product (axis 2 b) (axis 2 a) (axis 1 d) (axis 1 c)))
    (minus _ _ _ _ (turned_product (axis 2 b) (axis 2 a) (axis 0 d) (axis 0 c)) (turned_product (axis 0 b) (axis 0 a) (axis 2 d) (axis 2 c)))
    (minus _ _ _ _ (turned_product (axis 0 b) (axis 0 a) (axis 1 d) (axis 1 c)) (turned_product (axis 1 b) (axis 1 a) (axis 0 d) (axis 0 c)))
  where
    minus : (a b c d : ℤ) → a ≡ b → c ≡ d → a -ℤ c ≡ b -ℤ d
    minus a b c d e f = cc

-- the two exchanged: the normal turns
pair_exchanged : (a b c d : Vector) → edges_normal c d a b ≡ opposite (edges_normal a b c d)
pair_exchanged a b c d =
    same_vector _ _ _ _ _ _ (on (d.y -ℤ c.y) (b.z -ℤ a.z) (d.z -ℤ c.z) (b.y -ℤ a.y)) (on (d.z -ℤ c.z) (b.x -ℤ a.x) (d.x -ℤ c.x) (b.z -ℤ a.z))
    (on (d.x -ℤ c.x) (b.y -ℤ a.y) (d.y -ℤ c.y) (b.x -ℤ a.x)) where
      on : (e f g h : ℤ) → e *ℤ f -ℤ g *ℤ h ≡ neg_ℤ (h *ℤ g -ℤ f *ℤ e)
      on e f g h = omega (arith, ints, *ℤ_comm e f, *ℤ_comm g h)

-- the height of the first over the second is that of the second under the first
height_exchanged : (a b c d : Vector) → volume c d a b ≡ volume a b c d
height_exchanged a b c d =
    volume_height c d a b ∙ by _ _ (pair_exchanged a b c d) (edges_normal a b c d).x (edges_normal a b c d).y (edges_normal a b c d).z
    ∙ sym (volume_height a b c d)
  where
    by : (n' n : Vector) → n' ≡ opposite n → (x y z : ℤ) → scalar n' (way a c) ≡ scalar n (way c a)
    by n' n e x y z =
        ap (λ (m : Vector). scalar m (way a c)) e
        ∙ omega (
          arith,
          ints,
          one n.x (c.x -ℤ a.x) (a.x -ℤ c.x) (omega (arith, ints)),
          one n.y (c.y -ℤ a.y) (a.y -ℤ c.y) (omega (arith, ints)),
          one n.z (c.z -ℤ a.z) (a.z -ℤ c.z) (omega (arith, ints)),
        ) where
          one : (n k l : ℤ) → k ≡ neg_ℤ l → neg_ℤ n *ℤ k ≡ n *ℤ l
          one n k l e = rw e (omega (arith, ints, neg-mul n (neg_ℤ l), mul-neg n l))

-- whether an edge of P is above one of Q stays when both are turned and change sides
edges_mirror : (a b c d : Corner) → exact_edges (mirror c) (mirror d) (mirror a) (mirror b) ≡ exact_edges a b c d
unfolding exact_edges
edges_mirror a b c d =
    let n = edges_normal (position a) (position b) (position c) (position d) in
    by _ _ (pair_normal c d a b ∙ pair_exchanged (position a) (position b) (position c) (position d))
    (sym (volume_height (position (mirror c)) (position (mirror d)) (position (mirror a)) (position (mirror b))) ∙ volume_mirror c d a b
    ∙ ap neg_ℤ (height_exchanged (position a) (position b) (position c) (position d) ∙ volume_height (position a) (position b) (position c) (position d)))
  where
    by : (n' : Vector) (h' : ℤ) → n' ≡ opposite (edges_normal (position a) (position b) (position c) (position d)) →
        h' ≡ neg_ℤ (scalar (edges_normal (position a) (position b) (position c) (position d)) (way (position c) (position a))) →
        is_above n' h' ≡ exact_edges a b c d
    by n' h' e f =
        ap (λ (m : Vector). is_above m h') e ∙ ap (λ (h : ℤ). is_above (opposite (edges_normal (position a) (position b) (position c) (position d))) h) f
        ∙ above_turned (edges_normal (position a) (position b) (position c) (position d))
        (scalar (edges_normal (position a) (position b) (position c) (position d)) (way (position c) (position a)))

-- the shadow of an edge of P and a vertex of Q
pub back_mirror : (w : Between) (a b q : Corner) → back_shadow a b q ≡ edge_shadow (mirror q) (mirror a) (mirror b)
back_mirror w a b q =
    by _ _ _ (bits_back (exact_beyond a q) (exact_beyond b q) (mark10 a b q)) (shadow10_mirror w a b q) where
      by : (x y z : ℤ) → x ≡ neg_ℤ y → x ≡ neg_ℤ z → y ≡ z
      by x y z e f = omega (arith, ints, e, f)

-- and of a vertex of P and an edge of Q: turned twice all stays
forth_mirror : (w : Between) (p c d : Corner) → edge_shadow p c d ≡ back_shadow (mirror c) (mirror d) (mirror p)
forth_mirror w p c d = sym (back_mirror w (mirror c) (mirror d) (mirror p) ∙ same) where
  twice : (z : ℤ) → neg_ℤ (neg_ℤ z) ≡ z
  twice z = omega (arith, ints)

  same : edge_shadow (mirror (mirror p)) (mirror (mirror c)) (mirror (mirror d)) ≡ edge_shadow p c d
  same = rw (twice (axis 0 p), twice (axis 1 p), twice (axis 0 c), twice (axis 1 c), twice (axis 0 d), twice (axis 1 d)) refl

-- so the shadow of two edges turns
shade_mirror : (w : Between) (a b c d : Corner) → edges_shade w a b c d ≡ neg_ℤ (edges_shade w (mirror c) (mirror d) (mirror a) (mirror b))
shade_mirror w a b c d =
    by _ _ _ _ _ _ (edges_shade_is w a b c d) (edges_shade_is w (mirror c) (mirror d) (mirror a) (mirror b)) (edges_mirror a b c d)
    (count _ _ _ _ _ _ _ _ (forth_mirror w b c d) (forth_mirror w a c d) (back_mirror w a b d) (back_mirror w a b c))
  where
    count : (f g h k f' g' h' k' : ℤ) → f ≡ f' → g ≡ g' → h ≡ h' → k ≡ k' → f -ℤ g -ℤ h +ℤ k ≡ neg_ℤ (h' -ℤ k' -ℤ f' +ℤ g')
    count f g h k f' g' h' k' e1 e2 e3 e4 = omega (arith, ints, e1, e2, e3, e4)

    by : (s t : Bool) (x y n m : ℤ) → x ≡ (if s then n else pos 0) → y ≡ (if t then m else pos 0) → t ≡ s → n ≡ neg_ℤ m → x ≡ neg_ℤ y
    by true true x y n m e f g h = omega (arith, ints, e, f, h)
    by false false x y n m e f g h = omega (arith, ints, e, f)
    by true false x y n m e f g h = absurd (cc)
    by false true x y n m e f g h = absurd (cc)

-- the moved volumes turn
volume_turned : (p u v t : Corner) →
    moved_volume (position (mirror p)) (position (mirror u)) (position (mirror v)) (position (mirror t)) ≡ neg_ℤ (volume_back (position p) (position u) (position v) (position t))
volume_turned p u v t =
    by _ _ (normal_mirror u v t) (volume_mirror p u v t)
  where
    by : (n' : Vector) (h' : ℤ) → n' ≡ face_normal (position u) (position v) (position t) → h' ≡ neg_ℤ (volume (position p) (position u) (position v) (position t)) →
        height_or_lead (opposite n') h' ≡ neg_ℤ (volume_back (position p) (position u) (position v) (position t))
    by n' h' e f =
        ap (λ (m : Vector). height_or_lead (opposite m) h') e ∙ ap (λ (h : ℤ). height_or_lead (opposite (face_normal (position u) (position v) (position t))) h) f
        ∙ lead_turned (face_normal (position u) (position v) (position t)) (volume (position p) (position u) (position v) (position t))

-- and those of two edges
pair_turned : (a b c d : Corner) →
    moved_pair (position (mirror a)) (position (mirror b)) (position (mirror c)) (position (mirror d)) ≡ neg_ℤ (pair_back (position a) (position b) (position c) (position d))
pair_turned a b c d =
    by _ _ (pair_normal a b c d) (volume_mirror a b c d)
  where
    by : (n' : Vector) (h' : ℤ) → n' ≡ edges_normal (position a) (position b) (position c) (position d) → h' ≡ neg_ℤ (volume (position a) (position b) (position c) (position d)) →
        height_or_lead n' h' ≡ neg_ℤ (pair_back (position a) (position b) (position c) (position d))
    by n' h' e f =
        ap (λ (m : Vector). height_or_lead m h') e ∙ ap (λ (h : ℤ). height_or_lead (edges_normal (position a) (position b) (position c) (position d)) h) f
        ∙ lead_back (edges_normal (position a) (position b) (position c) (position d)) (volume (position a) (position b) (position c) (position d))

-- so does whether the moved segment goes through the face
through_turned : (a b u v t : Corner) →
    moved_through (position (mirror a)) (position (mirror b)) (position (mirror u)) (position (mirror v)) (position (mirror t))
    ≡ neg_ℤ (through_moved (position a) (position b) (position u) (position v) (position t))
through_turned a b u v t =
    five_sign_turned _ _ _ _ _ _ _ _ _ _ (volume_turned a u v t) (ap neg_ℤ (volume_turned b u v t)) (pair_turned a b u v) (pair_turned a b v t) (pair_turned a b t u)

module _ (b : ℤ) (sized : pos 0 ≤ℤ b) (w : Between) (p q u v t : Corner) (hp : IsBounded b p) (hq : IsBounded b q) (hu : IsBounded b u)
    (hv : IsBounded b v) (ht : IsBounded b t) where
  -- the number of crossings of an edge of Q and a face of P
  pub number_back_is : edge_number (crossings.mirror (face_vertex exact w)) (crossings.mirror (edge_edge exact w)) p q u v t
      ≡ through_moved (position p) (position q) (position u) (position v) (position t)
  number_back_is =
      by _ _ _ _ _ _ _ _ _ _ _ _ (back_is w u v t p) (back_is w u v t q) (shade_mirror w u v p q) (shade_mirror w v t p q) (shade_mirror w t u p q)
      (number_is b sized w (mirror p) (mirror q) (mirror u) (mirror v) (mirror t) (bounded_mirror b p hp) (bounded_mirror b q hq) (bounded_mirror b u hu) (bounded_mirror b v hv)
      (bounded_mirror b t ht)) (through_turned p q u v t)
    where
      by : (s f x y z s' f' x' y' z' m n : ℤ) → s ≡ neg_ℤ s' → f ≡ neg_ℤ f' → x ≡ neg_ℤ x' → y ≡ neg_ℤ y' → z ≡ neg_ℤ z' →
          f' -ℤ s' -ℤ (x' +ℤ (y' +ℤ (z' +ℤ pos 0))) ≡ m → m ≡ neg_ℤ n → f -ℤ s -ℤ (x +ℤ (y +ℤ (z +ℤ pos 0))) ≡ n
      by s f x y z s' f' x' y' z' m n e1 e2 e3 e4 e5 e6 e7 = omega (arith, ints, e1, e2, e3, e4, e5, e6, e7)

  -- and so of the test's answer
  pub crossing_back_is : (settle : Settle) → number_of (face_edge_crossing exact w settle (u ∷ v ∷ t ∷ []) (p ∷ q ∷ []))
      ≡ through_moved (position p) (position q) (position u) (position v) (position t)
  crossing_back_is settle =
      lift (crossings.mirror (face_vertex exact w)) (crossings.mirror (edge_edge exact w)) (q_point w settle) p q u v t ∙ number_back_is
