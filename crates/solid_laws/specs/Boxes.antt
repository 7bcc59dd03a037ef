-- The winding numbers of boxes along the axes under exact tests: 1 inside, 0 outside, -1 inside one that is turned over, 2 in the overlap of two.
use Rattle.std.specs.Prelude.{◌≡◌, ◌+◌, ℕ, ℤ, pos, negsuc, neg_ℤ, ◌+ℤ◌, ◌-ℤ◌, ◌*ℤ◌, ◌≤ℤ◌, ◌<ℤ◌, Bool, true, false, not, ◌&&◌, int_le, List, [], ◌∷◌, ◌++◌, map, if◌then◌else◌}
use Rattle.std.specs.Ordering.{int_eq}
use Rattle.std.proofs.Common.{arith, refl, sym, ap, subst, ◌∙◌}
use Rattle.std.proofs.lemmas.Int.{ints, by_lt_z}
use Rattle.chain_terms.specs.Sums.{total}
use Rattle.chain_laws.specs.Products.{product}
use Rattle.chain_laws.specs.Sums.{total-append, total-map, total-neg, total-same}
use Rattle.mesh_terms.specs.Meshes.{Triple}
use Rattle.mb_base.specs.declared.point.Corner.{Corner}
use Rattle.side_terms.specs.Corners.{axis}
use Rattle.shadow_kernels.specs.declared.Edge.TheVariants.{OfQ}
use Rattle.shadow_kernels.specs.Spots.{Between}
use Rattle.plane_laws.specs.Above.{above_signed, height_over}
use Rattle.plane_laws.specs.Bits.{bit, bit_shadow}
use Rattle.plane_laws.specs.Decisions.{Vector, face_normal, is_above, is_over, leading, same_sign}
use Rattle.plane_laws.specs.Signs.{Signed, like, signed_mul}
use Rattle.exact_kernels.specs.Exact.{exact_beyond, exact_edge, exact_face, height, position}
use Rattle.exact_kernels.specs.Marks.{mark01}
use Rattle.solid_laws.specs.Faces.{edge_shadow, edge_turned, face_count, face_shade, shade_is}
use Rattle.solid_laws.specs.Meshes.{exact_winding, shade_at, shade_turned}

-- a corner with these coordinates
abbrev pub spot : ℤ → ℤ → ℤ → Corner
spot x y z = record { at = x ∷ y ∷ z ∷ []; up = [] }

-- the corners of a box, numbered as the program's box has them: at the bottom front left, front right, back left, back right, then at the top
pub record IsBoxAt (at : ℕ → Corner) (lx ly lz hx hy hz : ℤ) : Type 0 where
  pub c0 : at 0 ≡ spot lx ly lz
  pub c1 : at 1 ≡ spot hx ly lz
  pub c2 : at 2 ≡ spot lx hy lz
  pub c3 : at 3 ≡ spot hx hy lz
  pub c4 : at 4 ≡ spot lx ly hz
  pub c5 : at 5 ≡ spot hx ly hz
  pub c6 : at 6 ≡ spot lx hy hz
  pub c7 : at 7 ≡ spot hx hy hz

-- its triangles, likewise: two for each side, bottom, top, front, right, back, left, which turn left seen from outside
abbrev pub box_faces : List Triple
box_faces =
    (0, 3, 1) ∷ (0, 2, 3) ∷ (4, 5, 7) ∷ (4, 7, 6) ∷ (0, 1, 4) ∷ (1, 5, 4) ∷ (1, 3, 7) ∷ (1, 7, 5) ∷ (3, 2, 6) ∷ (3, 6, 7) ∷ (0, 4, 6) ∷ (0, 6, 2) ∷ []

-- at least the low number and less than the high one
abbrev pub is_within : ℤ → ℤ → ℤ → Bool
is_within low high z = int_le low z && not (int_le high z)

-- a vertex has no shadow on an upright face
dark : (w : Between) (p u v t : Corner) → (face_normal (position u) (position v) (position t)).z ≡ pos 0 → face_shade w p u v t ≡ pos 0
unfolding exact_face
dark w p u v t e =
    shade_is w p u v t ∙ ap (λ (b : Bool). if b then face_count p u v t else pos 0)
    (never (face_normal (position u) (position v) (position t)) (height_over (position u) (position v) (position t) (position p)) e) where
      none : (a b : ℤ) → b ≡ pos 0 → same_sign a b ≡ false
      none a b e = grind (arith, ints)

      never : (n : Vector) (h : ℤ) → n.z ≡ pos 0 → is_above n h ≡ false
      never n h e = by (int_eq h (pos 0)) where
        by : (b : Bool) → (if b then same_sign (leading n) n.z else same_sign h n.z) ≡ false
        by true = none (leading n) n.z e
        by false = none h n.z e

-- products with nothing
nothing_times : (x y : ℤ) → x ≡ pos 0 → x *ℤ y ≡ pos 0
nothing_times x y e = ap (λ (t : ℤ). t *ℤ y) e ∙ omega (arith, ints, (product (pos 0) y).is)

-- the other way round
times_nothing : (x y : ℤ) → y ≡ pos 0 → x *ℤ y ≡ pos 0
times_nothing x y e = ap (λ (t : ℤ). x *ℤ t) e ∙ omega (arith, ints, (product x (pos 0)).is)

-- of a number of a normal the first and the third factor are nothing
outer_gone : (a b c d : ℤ) → a ≡ pos 0 → c ≡ pos 0 → a *ℤ b -ℤ c *ℤ d ≡ pos 0
outer_gone a b c d e f = omega (arith, ints, nothing_times a b e, nothing_times c d f)

-- the second and the third
inner_gone : (a b c d : ℤ) → b ≡ pos 0 → c ≡ pos 0 → a *ℤ b -ℤ c *ℤ d ≡ pos 0
inner_gone a b c d e f = omega (arith, ints, times_nothing a b e, nothing_times c d f)

-- the first and the last
first_gone : (a b c d : ℤ) → a ≡ pos 0 → d ≡ pos 0 → a *ℤ b -ℤ c *ℤ d ≡ pos 0
first_gone a b c d e f = omega (arith, ints, nothing_times a b e, times_nothing c d f)

-- the test of numbers that are not negative
not_below : (d : ℤ) → pos 0 ≤ℤ d → int_le (pos 0) d ≡ true
not_below d l = grind (arith, ints)

-- and of such that are
below : (d : ℤ) → d <ℤ pos 0 → int_le (pos 0) d ≡ false
below d l = grind (arith, ints)

-- over a level face a vertex is above where it is not lower
level : (s : Bool) (n : Vector) (h d : ℤ) → n.x ≡ pos 0 → n.y ≡ pos 0 → Signed s n.z → h ≡ n.z *ℤ d → is_above n h ≡ int_le (pos 0) d
level s n h d ex ey hz eh =
    by_lt_z d (pos 0)
    (λ l. above_signed s false n h hz (subst (λ (z : ℤ). Signed (like s false) z) (sym eh) (signed_mul s false n.z d hz l)) ∙ sym (below d l))
    (λ k. by_lt_z (pos 0) d
    (λ l. above_signed s true n h hz (subst (λ (z : ℤ). Signed (like s true) z) (sym eh) (signed_mul s true n.z d hz l)) ∙ sym (not_below d k))
    (λ l. flat s (eh ∙ times_nothing n.z d (omega (arith, ints))) hz ∙ sym (not_below d k)))
  where
    zero : (z : ℤ) → z ≡ pos 0 → int_eq z (pos 0) ≡ true
    zero z e = ap (λ (t : ℤ). int_eq t (pos 0)) e

    alike : (s : Bool) (z : ℤ) → Signed s z → same_sign z z ≡ true
    alike true z l = grind (arith, ints)
    alike false z l = grind (arith, ints)

    flat : (s : Bool) → h ≡ pos 0 → Signed s n.z → is_above n h ≡ true
    flat s e l = rw (zero h e, zero n.x ex, zero n.y ey) (alike s n.z l)

-- a vertex over a level face of a box at the height z
shade_level : (w : Between) (s : Bool) (p u v t : Corner) (z : ℤ) → axis 2 u ≡ z → axis 2 v ≡ z → axis 2 t ≡ z → Signed s (face_normal (position u) (position v) (position t)).z →
    face_shade w p u v t ≡ (if int_le (pos 0) (axis 2 p -ℤ z) then face_count p u v t else pos 0)
unfolding exact_face
shade_level w s p u v t z eu ev et turn =
    shade_is w p u v t
    ∙ ap (λ (b : Bool). if b then face_count p u v t else pos 0)
    (level s n (height_over (position u) (position v) (position t) (position p)) (axis 2 p -ℤ z) nx ny turn
    (by n.x n.y n.z (axis 0 p -ℤ axis 0 u) (axis 1 p -ℤ axis 1 u) (axis 2 p -ℤ axis 2 u) (axis 2 p -ℤ z) nx ny (omega (arith, ints, eu))))
  where
    n : Vector
    n = face_normal (position u) (position v) (position t)

    nx : n.x ≡ pos 0
    nx = inner_gone (axis 1 v -ℤ axis 1 u) (axis 2 t -ℤ axis 2 u) (axis 2 v -ℤ axis 2 u) (axis 1 t -ℤ axis 1 u) (omega (arith, ints, et, eu)) (omega (arith, ints, ev, eu))

    ny : n.y ≡ pos 0
    ny = first_gone (axis 2 v -ℤ axis 2 u) (axis 0 t -ℤ axis 0 u) (axis 0 v -ℤ axis 0 u) (axis 2 t -ℤ axis 2 u) (omega (arith, ints, ev, eu)) (omega (arith, ints, et, eu))

    by : (a b c d e f g : ℤ) → a ≡ pos 0 → b ≡ pos 0 → f ≡ g → a *ℤ d +ℤ b *ℤ e +ℤ c *ℤ f ≡ c *ℤ g
    by a b c d e f g ea eb ef = omega (arith, ints, nothing_times a d ea, nothing_times b e eb, ap (λ (t : ℤ). c *ℤ t) ef)

-- an edge across, from the left to the right at the same y: its shadow, where the vertex is beyond its left end and not beyond its right one
edge_level : (p c d : Corner) (y : ℤ) → axis 0 c <ℤ axis 0 d → axis 1 c ≡ y → axis 1 d ≡ y →
    edge_shadow p c d ≡ (if is_within (axis 0 c) (axis 0 d) (axis 0 p) then bit (int_le (pos 0) (axis 1 p -ℤ y)) else pos 0)
edge_level p c d y right ec ed = by (exact_beyond p c) (exact_beyond p d) refl refl where
  later : exact_beyond p d ≡ true → exact_beyond p c ≡ true
  later e = by (axis 0 c) (axis 0 d) (axis 0 p) right e where
    by : (l r x : ℤ) → l <ℤ r → int_le r x ≡ true → int_le l x ≡ true
    by l r x h e = grind (arith, ints)

  over : (v l r d : ℤ) → l ≡ r → ((d <ℤ pos 0 → v <ℤ pos 0) × (pos 0 <ℤ d → pos 0 <ℤ v) × (d ≡ pos 0 → v ≡ pos 0)) → is_over v l r ≡ int_le (pos 0) d
  over v l r d e f =
      by_lt_z d (pos 0)
      (λ k. let m = f.0 k in grind (arith, ints))
      (λ h. by_lt_z (pos 0) d
      (λ k. let m = f.1 k in grind (arith, ints))
      (λ k. let m = f.2 (omega (arith, ints)) in grind (arith, ints)))

  mark : exact_edge OfQ p c d ≡ int_le (pos 0) (axis 1 p -ℤ y)
  mark =
      over (height OfQ p c d) (axis 1 c) (axis 1 d) (axis 1 p -ℤ y) (ec ∙ sym ed)
      (signs (axis 1 p -ℤ axis 1 c) (axis 0 d -ℤ axis 0 c) (axis 0 p -ℤ axis 0 c) (axis 1 d -ℤ axis 1 c) (axis 1 p -ℤ y) (omega (arith, ints, ec))
      (omega (arith, ints, right)) (omega (arith, ints, ec, ed)))
    where
      signs : (a b c d g : ℤ) → a ≡ g → pos 0 <ℤ b → d ≡ pos 0 →
          (g <ℤ pos 0 → (a *ℤ b -ℤ c *ℤ d) <ℤ pos 0) × (pos 0 <ℤ g → pos 0 <ℤ (a *ℤ b -ℤ c *ℤ d)) × (g ≡ pos 0 → a *ℤ b -ℤ c *ℤ d ≡ pos 0)
      signs a b c d g ea hb ed = (
        λ k. let m = signed_mul false true a b (omega (arith, ints, ea, k)) hb in omega (arith, ints, m, times_nothing c d ed),
        λ k. let m = signed_mul true true a b (omega (arith, ints, ea, k)) hb in omega (arith, ints, m, times_nothing c d ed),
        λ k. omega (arith, ints, nothing_times a b (ea ∙ k), times_nothing c d ed),
      )

  by : (s t : Bool) → exact_beyond p c ≡ s → exact_beyond p d ≡ t →
      bit_shadow s t (if s then exact_edge OfQ p c d else exact_edge OfQ p d c) ≡ (if s && not t then bit (int_le (pos 0) (axis 1 p -ℤ y)) else pos 0)
  by true true e f = refl
  by false false e f = refl
  by true false e f = ap bit mark
  by false true e f = let g = later f in absurd (cc)

-- an edge along y has no shadow
edge_along : (p c d : Corner) → axis 0 c ≡ axis 0 d → edge_shadow p c d ≡ pos 0
edge_along p c d e = by (exact_beyond p c) (exact_beyond p d) (mark01 p c d) (ap (λ (z : ℤ). int_le z (axis 0 p)) e) where
  by : (s t u : Bool) → s ≡ t → bit_shadow s t u ≡ pos 0
  by true true u e = refl
  by false false u e = refl
  by true false u e = absurd (cc)
  by false true u e = absurd (cc)

-- the shadows on the bottom and on the top, put together
put_together : (x y0 y1 z0 z1 : Bool) (c a b : ℤ) → c ≡ (if x then bit y1 -ℤ bit y0 else pos 0) → a ≡ (if z0 then c else pos 0) → b ≡ (if z1 then neg_ℤ c else pos 0) →
    bit y1 ≤ℤ bit y0 → bit z1 ≤ℤ bit z0 → neg_ℤ (a +ℤ b) ≡ (if x && ((y0 && not y1) && (z0 && not z1)) then pos 1 else pos 0)
put_together x y0 y1 z0 z1 c a b ec ea eb hy hz = by x y0 y1 z0 z1 ec ea eb hy hz where
  if_zero : (z : Bool) (a c : ℤ) → c ≡ pos 0 → a ≡ (if z then c else pos 0) → a ≡ pos 0
  if_zero true a c e f = f ∙ e
  if_zero false a c e f = f

  nothing : c ≡ pos 0 → (z0 z1 : Bool) → a ≡ (if z0 then c else pos 0) → b ≡ (if z1 then neg_ℤ c else pos 0) → neg_ℤ (a +ℤ b) ≡ pos 0
  nothing e z0 z1 f g = omega (arith, ints, if_zero z0 a c e f, if_zero z1 b (neg_ℤ c) (ap neg_ℤ e) g)

  by : (x y0 y1 z0 z1 : Bool) → c ≡ (if x then bit y1 -ℤ bit y0 else pos 0) → a ≡ (if z0 then c else pos 0) → b ≡ (if z1 then neg_ℤ c else pos 0) →
      bit y1 ≤ℤ bit y0 → bit z1 ≤ℤ bit z0 → neg_ℤ (a +ℤ b) ≡ (if x && ((y0 && not y1) && (z0 && not z1)) then pos 1 else pos 0)
  by false y0 y1 z0 z1 e f g h k = nothing e z0 z1 f g
  by true true true z0 z1 e f g h k = nothing e z0 z1 f g
  by true false false z0 z1 e f g h k = nothing e z0 z1 f g
  by true false true z0 z1 e f g h k = absurd (omega (arith, ints, h))
  by true true false true true e f g h k = omega (arith, ints, e, f, g)
  by true true false false false e f g h k = omega (arith, ints, e, f, g)
  by true true false true false e f g h k = omega (arith, ints, e, f, g)
  by true true false false true e f g h k = absurd (omega (arith, ints, k))

-- a difference that is not negative
le_shifted : (l z : ℤ) → int_le (pos 0) (z -ℤ l) ≡ int_le l z
le_shifted l z = grind (arith, ints)

-- the greater of two numbers is not negative where the lesser is not
bits_ordered : (d e : ℤ) → d ≤ℤ e → bit (int_le (pos 0) d) ≤ℤ bit (int_le (pos 0) e)
bits_ordered d e l =
    by_lt_z d (pos 0)
    (λ h. by (int_le (pos 0) d) (int_le (pos 0) e) (below d h))
    (λ h. both (int_le (pos 0) d) (int_le (pos 0) e) (not_below d h) (not_below e (omega (arith, ints, l, h))))
  where
    by : (s t : Bool) → s ≡ false → bit s ≤ℤ bit t
    by false true e = omega (arith, ints)
    by false false e = omega (arith, ints)
    by true t e = absurd (cc)

    both : (s t : Bool) → s ≡ true → t ≡ true → bit s ≤ℤ bit t
    both true true e f = omega (arith, ints)
    both false t e f = absurd (cc)
    both true false e f = absurd (cc)

-- two shadows that have one condition
both_if : (z : Bool) (m n c a b : ℤ) → m +ℤ n ≡ c → a ≡ (if z then m else pos 0) → b ≡ (if z then n else pos 0) → a +ℤ b ≡ (if z then c else pos 0)
both_if true m n c a b e f g = omega (arith, ints, e, f, g)
both_if false m n c a b e f g = omega (arith, ints, f, g)

-- two numbers that have one condition
minus_if : (x : Bool) (a b m n : ℤ) → a ≡ (if x then m else pos 0) → b ≡ (if x then n else pos 0) → a -ℤ b ≡ (if x then m -ℤ n else pos 0)
minus_if true a b m n e f = omega (arith, ints, e, f)
minus_if false a b m n e f = omega (arith, ints, e, f)

-- a box whose low numbers are below its high ones, and a vertex
module _ (w : Between) (p : Corner) (lx ly lz hx hy hz : ℤ) (right : lx <ℤ hx) (back : ly <ℤ hy) (up : lz <ℤ hz) where
  -- the shadows of twelve triangles over eight corners
  twelve : (c0 c1 c2 c3 c4 c5 c6 c7 : Corner) → ℤ
  twelve c0 c1 c2 c3 c4 c5 c6 c7 =
      face_shade w p c0 c3 c1 +ℤ (face_shade w p c0 c2 c3 +ℤ (face_shade w p c4 c5 c7 +ℤ (face_shade w p c4 c7 c6 +ℤ (face_shade w p c0 c1 c4 +ℤ
      (face_shade w p c1 c5 c4 +ℤ (face_shade w p c1 c3 c7 +ℤ (face_shade w p c1 c7 c5 +ℤ (face_shade w p c3 c2 c6 +ℤ (face_shade w p c3 c6 c7 +ℤ
      (face_shade w p c0 c4 c6 +ℤ (face_shade w p c0 c6 c2 +ℤ pos 0)))))))))))

  -- the counts on the bottom: that of its back edge less that of its front edge
  floor_count : ℤ
  floor_count = if is_within lx hx (axis 0 p) then bit (int_le (pos 0) (axis 1 p -ℤ hy)) -ℤ bit (int_le (pos 0) (axis 1 p -ℤ ly)) else pos 0

  -- the area of the floor
  area_above : pos 0 <ℤ ((hx -ℤ lx) *ℤ (hy -ℤ ly))
  area_above = signed_mul true true (hx -ℤ lx) (hy -ℤ ly) (omega (arith, ints, right)) (omega (arith, ints, back))

  -- the same with its sides exchanged
  area_turned : pos 0 <ℤ ((hy -ℤ ly) *ℤ (hx -ℤ lx))
  area_turned = signed_mul true true (hy -ℤ ly) (hx -ℤ lx) (omega (arith, ints, back)) (omega (arith, ints, right))

  -- the counts of both triangles of a level side
  counts : (z : ℤ) → edge_shadow p (spot lx hy z) (spot hx hy z) -ℤ edge_shadow p (spot lx ly z) (spot hx ly z) ≡ floor_count
  unfolding floor_count
  counts z =
      minus_if (is_within lx hx (axis 0 p)) _ _ _ _ (edge_level p (spot lx hy z) (spot hx hy z) hy right refl refl) (edge_level p (spot lx ly z) (spot hx ly z) ly right refl refl)

  -- the shadows on the bottom
  floor : face_shade w p (spot lx ly lz) (spot hx hy lz) (spot hx ly lz) +ℤ face_shade w p (spot lx ly lz) (spot lx hy lz) (spot hx hy lz)
      ≡ (if int_le (pos 0) (axis 2 p -ℤ lz) then floor_count else pos 0)
  floor =
      let c0 = spot lx ly lz in
      let c1 = spot hx ly lz in
      let c2 = spot lx hy lz in
      let c3 = spot hx hy lz in
      both_if (int_le (pos 0) (axis 2 p -ℤ lz)) (face_count p c0 c3 c1) (face_count p c0 c2 c3) floor_count _ _
      (omega (arith, ints, counts lz, edge_turned p c0 c3, edge_turned p c0 c1, edge_along p c3 c1 refl, edge_along p c0 c2 refl))
      (shade_level w false p c0 c3 c1 lz refl refl refl
      (omega (arith, ints, area_turned, times_nothing (hx -ℤ lx) (ly -ℤ ly) (omega (arith, ints)))))
      (shade_level w false p c0 c2 c3 lz refl refl refl
      (omega (arith, ints, area_turned, nothing_times (lx -ℤ lx) (hy -ℤ ly) (omega (arith, ints)))))

  -- and those on the top
  ceiling : face_shade w p (spot lx ly hz) (spot hx ly hz) (spot hx hy hz) +ℤ face_shade w p (spot lx ly hz) (spot hx hy hz) (spot lx hy hz)
      ≡ (if int_le (pos 0) (axis 2 p -ℤ hz) then neg_ℤ floor_count else pos 0)
  ceiling =
      let c4 = spot lx ly hz in
      let c5 = spot hx ly hz in
      let c6 = spot lx hy hz in
      let c7 = spot hx hy hz in
      both_if (int_le (pos 0) (axis 2 p -ℤ hz)) (face_count p c4 c5 c7) (face_count p c4 c7 c6) (neg_ℤ floor_count) _ _
      (omega (arith, ints, counts hz, edge_turned p c4 c7, edge_turned p c6 c7, edge_along p c5 c7 refl, edge_along p c6 c4 refl))
      (shade_level w true p c4 c5 c7 hz refl refl refl
      (omega (arith, ints, area_above, nothing_times (ly -ℤ ly) (hx -ℤ lx) (omega (arith, ints)))))
      (shade_level w true p c4 c7 c6 hz refl refl refl
      (omega (arith, ints, area_above, times_nothing (hy -ℤ ly) (lx -ℤ lx) (omega (arith, ints)))))

  -- all twelve
  twelve_is : neg_ℤ (twelve (spot lx ly lz) (spot hx ly lz) (spot lx hy lz) (spot hx hy lz) (spot lx ly hz) (spot hx ly hz) (spot lx hy hz) (spot hx hy hz))
      ≡ (if is_within lx hx (axis 0 p) && (is_within ly hy (axis 1 p) && is_within lz hz (axis 2 p)) then pos 1 else pos 0)
  unfolding twelve floor_count
  twelve_is =
      let c0 = spot lx ly lz in
      let c1 = spot hx ly lz in
      let c2 = spot lx hy lz in
      let c3 = spot hx hy lz in
      let c4 = spot lx ly hz in
      let c5 = spot hx ly hz in
      let c6 = spot lx hy hz in
      let c7 = spot hx hy hz in
      let o : (z : ℤ) → z -ℤ z ≡ pos 0 = λ z. omega (arith, ints) in
      ap neg_ℤ (added _ _ _ _ _ _ _ _ _ _ _ _
      (dark w p c0 c1 c4 (inner_gone _ (ly -ℤ ly) (ly -ℤ ly) _ (o ly) (o ly)))
      (dark w p c1 c5 c4 (outer_gone (hx -ℤ hx) _ (ly -ℤ ly) _ (o hx) (o ly)))
      (dark w p c1 c3 c7 (first_gone (hx -ℤ hx) _ _ (hx -ℤ hx) (o hx) (o hx)))
      (dark w p c1 c7 c5 (first_gone (hx -ℤ hx) _ _ (hx -ℤ hx) (o hx) (o hx)))
      (dark w p c3 c2 c6 (inner_gone _ (hy -ℤ hy) (hy -ℤ hy) _ (o hy) (o hy)))
      (dark w p c3 c6 c7 (inner_gone _ (hy -ℤ hy) (hy -ℤ hy) _ (o hy) (o hy)))
      (dark w p c0 c4 c6 (outer_gone (lx -ℤ lx) _ (ly -ℤ ly) _ (o lx) (o ly)))
      (dark w p c0 c6 c2 (first_gone (lx -ℤ lx) _ _ (lx -ℤ lx) (o lx) (o lx))))
      ∙ put_together (is_within lx hx (axis 0 p)) (int_le (pos 0) (axis 1 p -ℤ ly)) (int_le (pos 0) (axis 1 p -ℤ hy)) (int_le (pos 0) (axis 2 p -ℤ lz))
      (int_le (pos 0) (axis 2 p -ℤ hz)) floor_count _ _ refl floor ceiling
      (bits_ordered (axis 1 p -ℤ hy) (axis 1 p -ℤ ly) (omega (arith, ints, back))) (bits_ordered (axis 2 p -ℤ hz) (axis 2 p -ℤ lz) (omega (arith, ints, up)))
      ∙ same (le_shifted ly (axis 1 p)) (le_shifted hy (axis 1 p)) (le_shifted lz (axis 2 p)) (le_shifted hz (axis 2 p))
    where
      added : (a b c d s1 s2 s3 s4 s5 s6 s7 s8 : ℤ) → s1 ≡ pos 0 → s2 ≡ pos 0 → s3 ≡ pos 0 → s4 ≡ pos 0 → s5 ≡ pos 0 → s6 ≡ pos 0 → s7 ≡ pos 0 → s8 ≡ pos 0 →
          a +ℤ (b +ℤ (c +ℤ (d +ℤ (s1 +ℤ (s2 +ℤ (s3 +ℤ (s4 +ℤ (s5 +ℤ (s6 +ℤ (s7 +ℤ (s8 +ℤ pos 0))))))))))) ≡ (a +ℤ b) +ℤ (c +ℤ d)
      added a b c d s1 s2 s3 s4 s5 s6 s7 s8 e1 e2 e3 e4 e5 e6 e7 e8 = omega (arith, ints)

      same : {y0 y1 z0 z1 y0' y1' z0' z1' : Bool} → y0 ≡ y0' → y1 ≡ y1' → z0 ≡ z0' → z1 ≡ z1' →
          (if is_within lx hx (axis 0 p) && ((y0 && not y1) && (z0 && not z1)) then pos 1 else pos 0)
          ≡ (if is_within lx hx (axis 0 p) && ((y0' && not y1') && (z0' && not z1')) then pos 1 else pos 0)
      same e f g h = cc

  -- the winding number of a box: 1 from the low numbers to before the high ones, else 0
  pub box_winding : (at : ℕ → Corner) → IsBoxAt at lx ly lz hx hy hz → exact_winding w p at box_faces
      ≡ (if is_within lx hx (axis 0 p) && (is_within ly hy (axis 1 p) && is_within lz hz (axis 2 p)) then pos 1 else pos 0)
  unfolding twelve
  box_winding at box = ap neg_ℤ (eight box.c0 box.c1 box.c2 box.c3 box.c4 box.c5 box.c6 box.c7) ∙ twelve_is where
    eight : {c0 c1 c2 c3 c4 c5 c6 c7 d0 d1 d2 d3 d4 d5 d6 d7 : Corner} → c0 ≡ d0 → c1 ≡ d1 → c2 ≡ d2 → c3 ≡ d3 → c4 ≡ d4 → c5 ≡ d5 → c6 ≡ d6 → c7 ≡ d7 →
        twelve c0 c1 c2 c3 c4 c5 c6 c7 ≡ twelve d0 d1 d2 d3 d4 d5 d6 d7
    eight e0 e1 e2 e3 e4 e5 e6 e7 = cc

-- the vertex lies in the box: not below its low numbers and below its high ones
pub record IsInBox (p : Corner) (lx ly lz hx hy hz : ℤ) : Type 0 where
  pub left : lx ≤ℤ axis 0 p
  pub right : axis 0 p <ℤ hx
  pub front : ly ≤ℤ axis 1 p
  pub back : axis 1 p <ℤ hy
  pub bottom : lz ≤ℤ axis 2 p
  pub top : axis 2 p <ℤ hz

-- the vertex lies outside of it
pub data IsOutsideBox (p : Corner) (lx ly lz hx hy hz : ℤ) : Type 0 where
  left : axis 0 p <ℤ lx → IsOutsideBox p lx ly lz hx hy hz
  right : hx <ℤ axis 0 p → IsOutsideBox p lx ly lz hx hy hz
  front : axis 1 p <ℤ ly → IsOutsideBox p lx ly lz hx hy hz
  back : hy <ℤ axis 1 p → IsOutsideBox p lx ly lz hx hy hz
  bottom : axis 2 p <ℤ lz → IsOutsideBox p lx ly lz hx hy hz
  top : hz <ℤ axis 2 p → IsOutsideBox p lx ly lz hx hy hz

-- tests of a number within
within_yes : (l h z : ℤ) → l ≤ℤ z → z <ℤ h → is_within l h z ≡ true
within_yes l h z e f = grind (arith, ints)

-- below the low number
within_low : (l h z : ℤ) → z <ℤ l → is_within l h z ≡ false
within_low l h z e = grind (arith, ints)

-- past the high one
within_high : (l h z : ℤ) → h <ℤ z → is_within l h z ≡ false
within_high l h z e = grind (arith, ints)

-- a vertex and a box
module _ (w : Between) (p : Corner) (at : ℕ → Corner) (lx ly lz hx hy hz : ℤ) (box : IsBoxAt at lx ly lz hx hy hz) where
  -- inside a box the winding number is 1
  pub inside_a_box : IsInBox p lx ly lz hx hy hz → exact_winding w p at box_faces ≡ pos 1
  inside_a_box h =
      box_winding w p lx ly lz hx hy hz (omega (arith, ints, h.left, h.right)) (omega (arith, ints, h.front, h.back)) (omega (arith, ints, h.bottom, h.top)) at box
      ∙ by (within_yes lx hx (axis 0 p) h.left h.right) (within_yes ly hy (axis 1 p) h.front h.back) (within_yes lz hz (axis 2 p) h.bottom h.top)
    where
      by : {x y z : Bool} → x ≡ true → y ≡ true → z ≡ true → (if x && (y && z) then pos 1 else pos 0) ≡ pos 1
      by e f g = rw (e, f, g) refl

  -- outside it is 0
  pub outside_a_box : lx <ℤ hx → ly <ℤ hy → lz <ℤ hz → IsOutsideBox p lx ly lz hx hy hz → exact_winding w p at box_faces ≡ pos 0
  outside_a_box wide deep high o = box_winding w p lx ly lz hx hy hz wide deep high at box ∙ by o where
    x_no : (x y z : Bool) → x ≡ false → (if x && (y && z) then pos 1 else pos 0) ≡ pos 0
    x_no true y z e = absurd (cc)
    x_no false y z e = refl

    y_no : (x y z : Bool) → y ≡ false → (if x && (y && z) then pos 1 else pos 0) ≡ pos 0
    y_no x true z e = absurd (cc)
    y_no true false z e = refl
    y_no false false z e = refl

    z_no : (x y z : Bool) → z ≡ false → (if x && (y && z) then pos 1 else pos 0) ≡ pos 0
    z_no x y true e = absurd (cc)
    z_no true true false e = refl
    z_no true false false e = refl
    z_no false y false e = refl

    by : IsOutsideBox p lx ly lz hx hy hz → (if is_within lx hx (axis 0 p) && (is_within ly hy (axis 1 p) && is_within lz hz (axis 2 p)) then pos 1 else pos 0) ≡ pos 0
    by (left l) = x_no (is_within lx hx (axis 0 p)) (is_within ly hy (axis 1 p)) (is_within lz hz (axis 2 p)) (within_low lx hx (axis 0 p) l)
    by (right l) = x_no (is_within lx hx (axis 0 p)) (is_within ly hy (axis 1 p)) (is_within lz hz (axis 2 p)) (within_high lx hx (axis 0 p) l)
    by (front l) = y_no (is_within lx hx (axis 0 p)) (is_within ly hy (axis 1 p)) (is_within lz hz (axis 2 p)) (within_low ly hy (axis 1 p) l)
    by (back l) = y_no (is_within lx hx (axis 0 p)) (is_within ly hy (axis 1 p)) (is_within lz hz (axis 2 p)) (within_high ly hy (axis 1 p) l)
    by (bottom l) = z_no (is_within lx hx (axis 0 p)) (is_within ly hy (axis 1 p)) (is_within lz hz (axis 2 p)) (within_low lz hz (axis 2 p) l)
    by (top l) = z_no (is_within lx hx (axis 0 p)) (is_within ly hy (axis 1 p)) (is_within lz hz (axis 2 p)) (within_high lz hz (axis 2 p) l)

-- a triangle turned over
abbrev pub turned_over : Triple → Triple
turned_over t = (t.0, t.2, t.1)

-- a mesh turned over has the opposite winding number
pub winding_turned_over : (w : Between) (p : Corner) (at : ℕ → Corner) (ts : List Triple) → exact_winding w p at (map turned_over ts) ≡ neg_ℤ (exact_winding w p at ts)
winding_turned_over w p at ts =
    ap neg_ℤ (total-map (shade_at w p at) turned_over ts
    ∙ total-same (λ t. shade_at w p at (turned_over t)) (λ t. neg_ℤ (shade_at w p at t))
    (λ t. by (shade_at w p at t) (shade_at w p at (turned_over t)) (shade_turned w p (at t.0) (at t.1) (at t.2))) ts
    ∙ total-neg (shade_at w p at) ts)
  where
    by : (a b : ℤ) → a +ℤ b ≡ pos 0 → b ≡ neg_ℤ a
    by a b e = omega (arith, ints)

-- winding numbers of meshes put together add up
pub winding_together : (w : Between) (p : Corner) (at : ℕ → Corner) (ts us : List Triple) → exact_winding w p at (ts ++ us) ≡ exact_winding w p at ts +ℤ exact_winding w p at us
winding_together w p at ts us =
    by (total (shade_at w p at) (ts ++ us)) (total (shade_at w p at) ts) (total (shade_at w p at) us) (total-append (shade_at w p at) ts us) where
      by : (x a b : ℤ) → x ≡ a +ℤ b → neg_ℤ x ≡ neg_ℤ a +ℤ neg_ℤ b
      by x a b e = omega (arith, ints)

-- triangles over the corners from a number on
abbrev pub from : ℕ → Triple → Triple
from k t = (k + t.0, k + t.1, k + t.2)

-- are those over these corners
pub winding_from : (w : Between) (p : Corner) (at : ℕ → Corner) (k : ℕ) (ts : List Triple) → exact_winding w p at (map (from k) ts) ≡ exact_winding w p (λ i. at (k + i)) ts
winding_from w p at k ts = ap neg_ℤ (total-map (shade_at w p at) (from k) ts)

-- inside a box that is turned over the winding number is -1
pub inside_a_box_turned_over : (w : Between) (p : Corner) (at : ℕ → Corner) (lx ly lz hx hy hz : ℤ) → IsBoxAt at lx ly lz hx hy hz → IsInBox p lx ly lz hx hy hz →
    exact_winding w p at (map turned_over box_faces) ≡ negsuc 0
inside_a_box_turned_over w p at lx ly lz hx hy hz box h = winding_turned_over w p at box_faces ∙ ap neg_ℤ (inside_a_box w p at lx ly lz hx hy hz box h)

-- in the overlap of two boxes of one mesh it is 2
pub in_the_overlap_of_two_boxes : (w : Between) (p : Corner) (at : ℕ → Corner) (lx ly lz hx hy hz kx ky kz mx my mz : ℤ) → IsBoxAt at lx ly lz hx hy hz →
    IsBoxAt (λ i. at (8 + i)) kx ky kz mx my mz → IsInBox p lx ly lz hx hy hz → IsInBox p kx ky kz mx my mz →
    exact_winding w p at (box_faces ++ map (from 8) box_faces) ≡ pos 2
in_the_overlap_of_two_boxes w p at lx ly lz hx hy hz kx ky kz mx my mz box other h k =
    winding_together w p at box_faces (map (from 8) box_faces)
    ∙ by (exact_winding w p at box_faces) (exact_winding w p at (map (from 8) box_faces)) (inside_a_box w p at lx ly lz hx hy hz box h)
    (winding_from w p at 8 box_faces ∙ inside_a_box w p (λ i. at (8 + i)) kx ky kz mx my mz other k)
  where
    by : (a b : ℤ) → a ≡ pos 1 → b ≡ pos 1 → a +ℤ b ≡ pos 2
    by a b e f = omega (arith, ints)
