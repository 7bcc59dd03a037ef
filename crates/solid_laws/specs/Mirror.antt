-- Space turned through the origin: shadows of faces of P on a vertex of Q are shadows of the turned vertex on the turned faces, turned.
use Rattle.std.specs.Prelude.{◌≡◌, ℤ, pos, neg_ℤ, ◌+ℤ◌, ◌-ℤ◌, ◌*ℤ◌, Bool, true, false, not, int_le, int_lt, if◌then◌else◌, ◌||◌, ◌&&◌, [], ◌∷◌}
use Rattle.std.specs.Ordering.{int_eq}
use Rattle.std.proofs.Common.{arith, refl, sym, ap, ◌∙◌}
use Rattle.std.proofs.lemmas.Int.{ints}
use Rattle.chain_terms.specs.Sums.{total}
use Rattle.chain_laws.specs.Products.{mul-sub, add-mul, sub-mul, mul-neg, neg-mul}
use Rattle.std.proofs.Math.IntN.{*ℤ_comm}
use Rattle.mb_base.specs.declared.point.Corner.{Corner}
use Rattle.side_terms.specs.Corners.{axis}
use Rattle.shadow_kernels.specs.declared.Edge.TheVariants.{OfP, OfQ}
use Rattle.shadow_kernels.specs.Spots.{Between, spot_between}
use Rattle.shadow_kernels.specs.Counts.{shadow_of, lifted, joined, first_spot}
use Rattle.shadow_kernels.specs.Shadows.{boundary20, meet20}
use Rattle.plane_laws.specs.Signs.{Signed, Weak}
use Rattle.plane_laws.specs.Bits.{bit_shadow}
use Rattle.plane_laws.specs.Decisions.{Vector, way, scalar, face_normal, is_above, is_over}
use Rattle.exact_kernels.specs.Exact.{exact, exact_beyond, exact_edge, exact_face, height, position}
use Rattle.exact_kernels.specs.Marks.{mark10, shadow10}
use Rattle.solid_terms.specs.Solids.{HaveSign, IsClear, inside, one_sign, volume}
use Rattle.space_laws.specs.Volumes.{unit, one_sign_all, one_sign_not, by_one_sign}
use Rattle.solid_laws.specs.Bounds.{IsUpTo, IsBounded}
use Rattle.solid_laws.specs.Faces.{edge_shadow, face_shade, shade_is, shadow_met}

-- a corner turned through the origin
abbrev pub mirror : Corner → Corner
mirror c = record { at = neg_ℤ (axis 0 c) ∷ neg_ℤ (axis 1 c) ∷ neg_ℤ (axis 2 c) ∷ []; up = c.up }

-- the order turns
le_turned : (a b : ℤ) → int_le (neg_ℤ a) (neg_ℤ b) ≡ int_le b a
le_turned a b = grind (arith, ints)

-- so what is beyond is so the other way round
pub beyond_mirror : (a q : Corner) → exact_beyond (mirror q) (mirror a) ≡ exact_beyond a q
beyond_mirror a q = le_turned (axis 0 a) (axis 0 q)

-- a height stays
height_mirror : (q l r : Corner) → height OfQ (mirror q) (mirror r) (mirror l) ≡ height OfP q l r
height_mirror q l r = by (axis 0 q) (axis 1 q) (axis 0 l) (axis 1 l) (axis 0 r) (axis 1 r) where
  by : (qx qy lx ly rx ry : ℤ) → (neg_ℤ qy -ℤ neg_ℤ ry) *ℤ (neg_ℤ lx -ℤ neg_ℤ rx) -ℤ (neg_ℤ qx -ℤ neg_ℤ rx) *ℤ (neg_ℤ ly -ℤ neg_ℤ ry) ≡ (ly -ℤ qy) *ℤ (rx -ℤ lx) +ℤ
      (qx -ℤ lx) *ℤ (ry -ℤ ly)
  by qx qy lx ly rx ry =
      last (ry -ℤ ly) (ly -ℤ qy) (rx -ℤ lx) (qx -ℤ lx) (neg_ℤ qy -ℤ neg_ℤ ry) (neg_ℤ lx -ℤ neg_ℤ rx) (neg_ℤ qx -ℤ neg_ℤ rx) (neg_ℤ ly -ℤ neg_ℤ ry) (omega (arith, ints))
      (omega (arith, ints)) (omega (arith, ints)) (omega (arith, ints)) where
        last : (s t g h a b c d : ℤ) → a ≡ s +ℤ t → b ≡ g → c ≡ g -ℤ h → d ≡ s → a *ℤ b -ℤ c *ℤ d ≡ t *ℤ g +ℤ h *ℤ s
        last s t g h a b c d ea eb ec ed = rw (ea, eb, ec, ed) (omega (arith, ints, add-mul s t g, sub-mul g h s, *ℤ_comm s g))

-- so whether P is above stays
edge_mirror : (q l r : Corner) → exact_edge OfQ (mirror q) (mirror r) (mirror l) ≡ exact_edge OfP q l r
edge_mirror q l r = by (height OfQ (mirror q) (mirror r) (mirror l)) (height OfP q l r) (neg_ℤ (axis 1 l)) (neg_ℤ (axis 1 r)) (axis 1 r) (axis 1 l) (height_mirror q l r)
    (le_turned (axis 1 l) (axis 1 r)) where
      by : (h k a b c d : ℤ) → h ≡ k → int_le a b ≡ int_le c d → is_over h b a ≡ is_over k d c
      by h k a b c d e f = ap (λ (z : ℤ). is_over z b a) e ∙ ap (λ (t : Bool). int_lt (pos 0) k || (int_eq k (pos 0) && t)) f

-- the shadow of an edge of P and a vertex of Q
pub shadow10_mirror : (w : Between) (a b q : Corner) → bit_shadow (exact_beyond b q) (exact_beyond a q) (mark10 a b q) ≡ neg_ℤ (edge_shadow (mirror q) (mirror a) (mirror b))
shadow10_mirror w a b q =
    rw (beyond_mirror a q, beyond_mirror b q, edge_mirror q b a, edge_mirror q a b)
    (by (exact_beyond a q) (exact_beyond b q) (exact_edge OfP q a b) (exact_edge OfP q b a))
  where
    by : (s t x y : Bool) → bit_shadow t s (if t then x else y) ≡ neg_ℤ (bit_shadow s t (if s then y else x))
    by true true x y = refl
    by false false x y = refl
    by true false x y = refl
    by false true x y = omega (arith, ints)

-- a product of differences turned
pub turned_product : (a b c d : ℤ) → (neg_ℤ a -ℤ neg_ℤ b) *ℤ (neg_ℤ c -ℤ neg_ℤ d) ≡ (a -ℤ b) *ℤ (c -ℤ d)
turned_product a b c d = by (a -ℤ b) (c -ℤ d) (neg_ℤ a -ℤ neg_ℤ b) (neg_ℤ c -ℤ neg_ℤ d) (omega (arith, ints)) (omega (arith, ints)) where
  by : (x y x' y' : ℤ) → x' ≡ neg_ℤ x → y' ≡ neg_ℤ y → x' *ℤ y' ≡ x *ℤ y
  by x y x' y' e f = rw (e, f) (omega (arith, ints, neg-mul x (neg_ℤ y), mul-neg x y))

-- a normal stays
pub same_vector : (x y z x' y' z' : ℤ) → x ≡ x' → y ≡ y' → z ≡ z' → ◌≡◌ {A = Vector} (record { x = x; y = y; z = z }) (record { x = x'; y = y'; z = z' })
same_vector x y z x' y' z' e f g = cc

-- differences of equal numbers
minus : (a b c d : ℤ) → a ≡ b → c ≡ d → a -ℤ c ≡ b -ℤ d
minus a b c d e f = cc

-- the normal of turned corners
pub normal_mirror : (u v t : Corner) → face_normal (position (mirror u)) (position (mirror v)) (position (mirror t)) ≡ face_normal (position u) (position v) (position t)
normal_mirror u v t =
    same_vector _ _ _ _ _ _
    (minus _ _ _ _ (turned_product (axis 1 v) (axis 1 u) (axis 2 t) (axis 2 u)) (turned_product (axis 2 v) (axis 2 u) (axis 1 t) (axis 1 u)))
    (minus _ _ _ _ (turned_product (axis 2 v) (axis 2 u) (axis 0 t) (axis 0 u)) (turned_product (axis 0 v) (axis 0 u) (axis 2 t) (axis 2 u)))
    (minus _ _ _ _ (turned_product (axis 0 v) (axis 0 u) (axis 1 t) (axis 1 u)) (turned_product (axis 1 v) (axis 1 u) (axis 0 t) (axis 0 u)))

-- the way between turned corners runs back
way_mirror : (q u : Corner) → way (position (mirror u)) (position (mirror q)) ≡ way (position q) (position u)
way_mirror q u = same_vector _ _ _ _ _ _ (omega (arith, ints)) (omega (arith, ints)) (omega (arith, ints))

-- whether a face of P is above a vertex of Q
pub face_mirror : (u v t q : Corner) → exact_face OfP q u v t ≡ exact_face OfQ (mirror q) (mirror u) (mirror v) (mirror t)
unfolding exact_face
face_mirror u v t q = by _ _ _ _ (normal_mirror u v t) (way_mirror q u) where
  by : (n' n w' w : Vector) → n' ≡ n → w' ≡ w → is_above n (scalar n w) ≡ is_above n' (scalar n' w')
  by n' n w' w e f = ap (λ (v : Vector). is_above n (scalar n v)) (sym f) ∙ ap (λ (m : Vector). is_above m (scalar m w')) (sym e)

-- the shadow of a face of P on a vertex of Q
abbrev pub back_shade : Between → Corner → Corner → Corner → Corner → ℤ
back_shade w u v t q = shadow_of (meet20 exact w u v t q)

-- it is minus the shadow of the turned vertex on the turned face
pub back_is : (w : Between) (u v t q : Corner) → back_shade w u v t q ≡ neg_ℤ (face_shade w (mirror q) (mirror u) (mirror v) (mirror t))
unfolding meet20 lifted joined
back_is w u v t q =
    let ms = boundary20 exact w u v t q in
    shadow_met (total shadow_of ms) (exact_face OfP q u v t) (spot_between w (first_spot false ms) (first_spot true ms))
    ∙ by _ _ _ _ _ (face_mirror u v t q)
    (sum _ _ _ _ _ _ (shadow10 w u v q ∙ shadow10_mirror w u v q) (shadow10 w v t q ∙ shadow10_mirror w v t q) (shadow10 w t u q ∙ shadow10_mirror w t u q))
    (shade_is w (mirror q) (mirror u) (mirror v) (mirror t))
  where
    sum : (a b c a' b' c' : ℤ) → a ≡ neg_ℤ a' → b ≡ neg_ℤ b' → c ≡ neg_ℤ c' → a +ℤ (b +ℤ (c +ℤ pos 0)) ≡ neg_ℤ (a' +ℤ b' +ℤ c')
    sum a b c a' b' c' e f g = omega (arith, ints, e, f, g)

    by : (s t : Bool) (n m x : ℤ) → s ≡ t → n ≡ neg_ℤ m → x ≡ (if t then m else pos 0) → (if s then n else pos 0) ≡ neg_ℤ x
    by true true n m x e f g = omega (arith, ints, f, g)
    by false false n m x e f g = omega (arith, ints, g)
    by true false n m x e f g = absurd (cc)
    by false true n m x e f g = absurd (cc)

-- volumes turn
pub volume_mirror : (p u v t : Corner) → volume (position (mirror p)) (position (mirror u)) (position (mirror v)) (position (mirror t)) ≡ neg_ℤ
    (volume (position p) (position u) (position v) (position t))
volume_mirror p u v t = by _ _ _ _ (normal_mirror u v t) (way_mirror u p) ∙ back (face_normal (position u) (position v) (position t)) (position u) (position p) where
  by : (n' n w' w : Vector) → n' ≡ n → w' ≡ w → scalar n' w' ≡ scalar n w
  by n' n w' w e f = ap (λ (m : Vector). scalar m w') e ∙ ap (λ (v : Vector). scalar n v) f

  back : (n u p : Vector) → scalar n (way u p) ≡ neg_ℤ (scalar n (way p u))
  back n u p = omega (arith, ints, mul-sub n.x u.x p.x, mul-sub n.x p.x u.x, mul-sub n.y u.y p.y, mul-sub n.y p.y u.y, mul-sub n.z u.z p.z, mul-sub n.z p.z u.z)

-- bounds stay
pub bounded_mirror : (b : ℤ) (c : Corner) → IsBounded b c → IsBounded b (mirror c)
bounded_mirror b c h = record { x = up_to b (axis 0 c) h.x; y = up_to b (axis 1 c) h.y; z = up_to b (axis 2 c) h.z } where
  up_to : (b z : ℤ) → IsUpTo b z → IsUpTo b (neg_ℤ z)
  up_to b z h = record { low = omega (arith, ints, h.high); high = omega (arith, ints, h.low) }

-- what is said of signs of volumes, of the volumes turned
clear_turned : (w v0 v1 v2 v3 w' v0' v1' v2' v3' : ℤ) → w' ≡ neg_ℤ w → v0' ≡ neg_ℤ v0 → v1' ≡ neg_ℤ v1 → v2' ≡ neg_ℤ v2 → v3' ≡ neg_ℤ v3 →
    ((s : Bool) → Signed s w → Weak s v0 → Weak s v1 → Weak s v2 → Weak s v3 → HaveSign s v0 v1 v2 v3) →
    (s : Bool) → Signed s w' → Weak s v0' → Weak s v1' → Weak s v2' → Weak s v3' → HaveSign s v0' v1' v2' v3'
clear_turned w v0 v1 v2 v3 w' v0' v1' v2' v3' e e0 e1 e2 e3 f true h k0 k1 k2 k3 =
    let c = f false (omega (arith, ints, e, h)) (omega (arith, ints, e0, k0)) (omega (arith, ints, e1, k1)) (omega (arith, ints, e2, k2)) (omega (arith, ints, e3, k3)) in
    record {
      first = omega (arith, ints, e0, c.first);
      second = omega (arith, ints, e1, c.second);
      third = omega (arith, ints, e2, c.third);
      fourth = omega
          (arith, ints, e3, c.fourth);
    }
clear_turned w v0 v1 v2 v3 w' v0' v1' v2' v3' e e0 e1 e2 e3 f false h k0 k1 k2 k3 =
    let c = f true (omega (arith, ints, e, h)) (omega (arith, ints, e0, k0)) (omega (arith, ints, e1, k1)) (omega (arith, ints, e2, k2)) (omega (arith, ints, e3, k3)) in
    record {
      first = omega (arith, ints, e0, c.first);
      second = omega (arith, ints, e1, c.second);
      third = omega (arith, ints, e2, c.third);
      fourth = omega
          (arith, ints, e3, c.fourth);
    }

-- so a turned corner is clear of the turned tetrahedron
pub clear_mirror : (p o u v t : Corner) → IsClear (position p) (position o) (position u) (position v) (position t) →
    IsClear (position (mirror p)) (position (mirror o)) (position (mirror u)) (position (mirror v)) (position (mirror t))
clear_mirror p o u v t c = record {
  strict =
      clear_turned _ _ _ _ _ _ _ _ _ _ (volume_mirror o u v t) (volume_mirror p u v t) (volume_mirror p o t v) (volume_mirror p o u t) (volume_mirror p o v u) c.strict;
}

-- the sign of a number turned
back_sign : (s : Bool) (z z' : ℤ) → z' ≡ neg_ℤ z → Signed s z → Signed (not s) z'
back_sign true z z' e h = omega (arith, ints, e, h)
back_sign false z z' e h = omega (arith, ints, e, h)

-- and back
sign_back : (s : Bool) (z z' : ℤ) → z' ≡ neg_ℤ z → Signed s z' → Signed (not s) z
sign_back true z z' e h = omega (arith, ints, e, h)
sign_back false z z' e h = omega (arith, ints, e, h)

-- four numbers turned
one_sign_turned : (v0 v1 v2 v3 v0' v1' v2' v3' : ℤ) → v0' ≡ neg_ℤ v0 → v1' ≡ neg_ℤ v1 → v2' ≡ neg_ℤ v2 → v3' ≡ neg_ℤ v3 → one_sign v0' v1' v2' v3' ≡ neg_ℤ (one_sign v0 v1 v2 v3)
one_sign_turned v0 v1 v2 v3 v0' v1' v2' v3' e0 e1 e2 e3 = by_one_sign v0 v1 v2 v3
    (λ s h0 h1 h2 h3. one_sign_all (not s) v0' v1' v2' v3' (back_sign s v0 v0' e0 h0) (back_sign s v1 v1' e1 h1) (back_sign s v2 v2' e2 h2) (back_sign s v3 v3' e3 h3)
    ∙ unit_not s ∙ ap neg_ℤ (sym (one_sign_all s v0 v1 v2 v3 h0 h1 h2 h3)))
    (λ n. one_sign_not v0' v1' v2' v3' (λ s h0 h1 h2 h3. n (not s) (sign_back s v0 v0' e0 h0) (sign_back s v1 v1' e1 h1) (sign_back s v2 v2' e2 h2) (sign_back s v3 v3' e3 h3))
    ∙ ap neg_ℤ (sym (one_sign_not v0 v1 v2 v3 n)))
  where
    unit_not : (s : Bool) → unit (not s) ≡ neg_ℤ (unit s)
    unit_not true = refl
    unit_not false = refl

-- the turned place is inside the turned tetrahedron, which has the other sign
pub inside_mirror : (p o u v t : Corner) → inside (position (mirror p)) (position (mirror o)) (position (mirror u)) (position (mirror v)) (position (mirror t))
    ≡ neg_ℤ (inside (position p) (position o) (position u) (position v) (position t))
inside_mirror p o u v t = one_sign_turned _ _ _ _ _ _ _ _ (volume_mirror p u v t) (volume_mirror p o t v) (volume_mirror p o u t) (volume_mirror p o v u)
