-- Whether a simplex is above another, by exact signs: exchanges of corners keep it.
use Rattle.std.specs.Prelude.{◌≡◌, ℤ, pos, neg_ℤ, ◌+ℤ◌, ◌-ℤ◌, ◌*ℤ◌, Bool, true, false, ◌&&◌, ◌||◌, int_lt, if◌then◌else◌}
use Rattle.std.specs.Ordering.{int_eq}
use Rattle.std.proofs.Common.{arith, refl, sym, ap, ◌∙◌}
use Rattle.std.proofs.lemmas.Int.{ints}
use Rattle.std.proofs.Math.IntN.{*ℤ_comm}
use Rattle.chain_laws.specs.Products.{spread}
use Rattle.plane_laws.specs.Signs.{Signed, like}
use Rattle.plane_laws.specs.Areas.{area}
use Rattle.plane_laws.specs.Decisions.{Vector, way, scalar, same_sign, leading, is_above, edges_normal, edges_above, face_normal, vertex_above, face_above}
use Rattle.plane_laws.specs.Heights.{flat, edges_height, face_height}

-- the other way round
abbrev pub opposite : Vector → Vector
opposite n = record { x = neg_ℤ n.x; y = neg_ℤ n.y; z = neg_ℤ n.z }

-- numbers turned
eq_turned : (z : ℤ) → int_eq (neg_ℤ z) (pos 0) ≡ int_eq z (pos 0)
eq_turned z = grind (arith, ints)

-- a negative is above 0 where the number is below it
lt_turned : (z : ℤ) → int_lt (pos 0) (neg_ℤ z) ≡ int_lt z (pos 0)
lt_turned z = grind (arith, ints)

-- and below 0 where the number is above it
gt_turned : (z : ℤ) → int_lt (neg_ℤ z) (pos 0) ≡ int_lt (pos 0) z
gt_turned z = grind (arith, ints)

-- two numbers turned have one sign where they had
same_turned : (a b : ℤ) → same_sign (neg_ℤ a) (neg_ℤ b) ≡ same_sign a b
same_turned a b = rw (lt_turned a, lt_turned b, gt_turned a, gt_turned b) (swapped (int_lt (pos 0) a) (int_lt (pos 0) b) (int_lt a (pos 0)) (int_lt b (pos 0))) where
  swapped : (p q r s : Bool) → ((r && s) || (p && q)) ≡ ((p && q) || (r && s))
  swapped true true true true = refl
  swapped true true true false = refl
  swapped true true false s = refl
  swapped true false true true = refl
  swapped true false true false = refl
  swapped true false false s = refl
  swapped false q true true = refl
  swapped false q true false = refl
  swapped false q false s = refl

-- the first number that is not 0 turns with its vector
leading_turned : (n : Vector) → leading (opposite n) ≡ neg_ℤ (leading n)
leading_turned n = rw (eq_turned n.x, eq_turned n.y) (by (int_eq n.x (pos 0)) (int_eq n.y (pos 0))) where
  by : (s t : Bool) → (if s then (if t then neg_ℤ n.z else neg_ℤ n.y) else neg_ℤ n.x) ≡ neg_ℤ (if s then (if t then n.z else n.y) else n.x)
  by true true = refl
  by true false = refl
  by false t = refl

-- turning both the normal and the height keeps it
pub above_turned : (n : Vector) (h : ℤ) → is_above (opposite n) (neg_ℤ h) ≡ is_above n h
above_turned n h = rw (eq_turned h, leading_turned n, same_turned (leading n) n.z, same_turned h n.z) refl

-- a normal not flat in z and a height not 0 decide it by their signs
pub above_signed : (s t : Bool) (n : Vector) (h : ℤ) → Signed s n.z → Signed (like s t) h → is_above n h ≡ t
above_signed true true n h k l = grind (arith, ints)
above_signed true false n h k l = grind (arith, ints)
above_signed false true n h k l = grind (arith, ints)
above_signed false false n h k l = grind (arith, ints)

-- equal numbers make equal vectors
same_vector : (x y z x' y' z' : ℤ) → x ≡ x' → y ≡ y' → z ≡ z' → ◌≡◌ {A = Vector} (record { x = x; y = y; z = z }) (record { x = x'; y = y'; z = z' })
same_vector x y z x' y' z' e f g = cc

-- so where normal and height turn, it is kept
kept_above : (n n' : Vector) (h h' : ℤ) → n' ≡ opposite n → h' ≡ neg_ℤ h → is_above n' h' ≡ is_above n h
kept_above n n' h h' e f = ap (λ (m : Vector). is_above m h') e ∙ ap (λ (z : ℤ). is_above (opposite n) z) f ∙ above_turned n h

module _ (a b c d : Vector) where
  -- the ends of P's edge exchanged
  normal_turned_p : edges_normal b a c d ≡ opposite (edges_normal a b c d)
  normal_turned_p =
      same_vector _ _ _ _ _ _ (on a.y b.y a.z b.z (d.z -ℤ c.z) (d.y -ℤ c.y)) (on a.z b.z a.x b.x (d.x -ℤ c.x) (d.z -ℤ c.z)) (on a.x b.x a.y b.y (d.y -ℤ c.y) (d.x -ℤ c.x)) where
        on : (s t u v g h : ℤ) → (s -ℤ t) *ℤ g -ℤ (u -ℤ v) *ℤ h ≡ neg_ℤ ((t -ℤ s) *ℤ g -ℤ (v -ℤ u) *ℤ h)
        on s t u v g h = simp spread (omega (arith, ints))

  -- the height turns
  height_turned_p : scalar (edges_normal b a c d) (way c b) ≡ neg_ℤ (scalar (edges_normal a b c d) (way c a))
  height_turned_p =
      edges_height (pos 0) b a c d ∙ by (area (flat c) (flat d) (flat a)) (area (flat c) (flat d) (flat b)) (area (flat a) (flat b) (flat c))
      (area (flat a) (flat b) (flat d)) _ _ (omega (arith, ints)) (omega (arith, ints)) (b.z -ℤ pos 0) (a.z -ℤ pos 0) (d.z -ℤ pos 0) (c.z -ℤ pos 0)
      ∙ ap neg_ℤ (sym (edges_height (pos 0) a b c d)) where
        by : (k l m n m' n' : ℤ) → m' ≡ neg_ℤ m → n' ≡ neg_ℤ n → (x y z w : ℤ) →
            l *ℤ y +ℤ neg_ℤ k *ℤ x +ℤ m' *ℤ z +ℤ neg_ℤ n' *ℤ w ≡ neg_ℤ (k *ℤ x +ℤ neg_ℤ l *ℤ y +ℤ m *ℤ z +ℤ neg_ℤ n *ℤ w)
        by k l m n m' n' e f x y z w = rw (e, f) (simp spread (omega (arith, ints)))

  -- so what is above stays
  pub edges_above_turned_p : edges_above b a c d ≡ edges_above a b c d
  edges_above_turned_p = kept_above _ _ _ _ normal_turned_p height_turned_p

  -- those of Q's
  normal_turned_q : edges_normal a b d c ≡ opposite (edges_normal a b c d)
  normal_turned_q =
      same_vector _ _ _ _ _ _ (on c.y d.y c.z d.z (b.y -ℤ a.y) (b.z -ℤ a.z)) (on c.z d.z c.x d.x (b.z -ℤ a.z) (b.x -ℤ a.x)) (on c.x d.x c.y d.y (b.x -ℤ a.x) (b.y -ℤ a.y)) where
        on : (s t u v g h : ℤ) → g *ℤ (u -ℤ v) -ℤ h *ℤ (s -ℤ t) ≡ neg_ℤ (g *ℤ (v -ℤ u) -ℤ h *ℤ (t -ℤ s))
        on s t u v g h = simp spread (omega (arith, ints))

  -- the height turns
  height_turned_q : scalar (edges_normal a b d c) (way d a) ≡ neg_ℤ (scalar (edges_normal a b c d) (way c a))
  height_turned_q =
      edges_height (pos 0) a b d c ∙ by (area (flat c) (flat d) (flat a)) (area (flat c) (flat d) (flat b)) (area (flat a) (flat b) (flat c))
      (area (flat a) (flat b) (flat d)) _ _ (omega (arith, ints)) (omega (arith, ints)) (b.z -ℤ pos 0) (a.z -ℤ pos 0) (d.z -ℤ pos 0) (c.z -ℤ pos 0)
      ∙ ap neg_ℤ (sym (edges_height (pos 0) a b c d)) where
        by : (k l m n k' l' : ℤ) → k' ≡ neg_ℤ k → l' ≡ neg_ℤ l → (x y z w : ℤ) →
            k' *ℤ x +ℤ neg_ℤ l' *ℤ y +ℤ n *ℤ w +ℤ neg_ℤ m *ℤ z ≡ neg_ℤ (k *ℤ x +ℤ neg_ℤ l *ℤ y +ℤ m *ℤ z +ℤ neg_ℤ n *ℤ w)
        by k l m n k' l' e f x y z w = rw (e, f) (simp spread (omega (arith, ints)))

  -- so what is above stays
  pub edges_above_turned_q : edges_above a b d c ≡ edges_above a b c d
  edges_above_turned_q = kept_above _ _ _ _ normal_turned_q height_turned_q

-- a face's corners exchanged: each number of the normal is an area
pub normal_is : (ui uj vi vj wi wj : ℤ) →
    (vi -ℤ ui) *ℤ (wj -ℤ uj) -ℤ (vj -ℤ uj) *ℤ (wi -ℤ ui) ≡ area (record { x = ui; y = uj }) (record { x = vi; y = vj }) (record { x = wi; y = wj })
normal_is ui uj vi vj wi wj = simp spread (omega (arith, ints, *ℤ_comm vj wi, *ℤ_comm vj ui, *ℤ_comm uj wi, *ℤ_comm uj ui))

-- the first two corners exchanged: the normal turns
normal_exchanged : (u v w : Vector) → face_normal v u w ≡ opposite (face_normal u v w)
normal_exchanged u v w = same_vector _ _ _ _ _ _ (on u.y u.z v.y v.z w.y w.z) (on u.z u.x v.z v.x w.z w.x) (on u.x u.y v.x v.y w.x w.y) where
  on : (ui uj vi vj wi wj : ℤ) → (ui -ℤ vi) *ℤ (wj -ℤ vj) -ℤ (uj -ℤ vj) *ℤ (wi -ℤ vi) ≡ neg_ℤ ((vi -ℤ ui) *ℤ (wj -ℤ uj) -ℤ (vj -ℤ uj) *ℤ (wi -ℤ ui))
  on ui uj vi vj wi wj = omega (arith, ints, normal_is vi vj ui uj wi wj, normal_is ui uj vi vj wi wj)

-- the last two exchanged: likewise
normal_changed : (u v w : Vector) → face_normal u w v ≡ opposite (face_normal u v w)
normal_changed u v w = same_vector _ _ _ _ _ _ (on u.y u.z v.y v.z w.y w.z) (on u.z u.x v.z v.x w.z w.x) (on u.x u.y v.x v.y w.x w.y) where
  on : (ui uj vi vj wi wj : ℤ) → (wi -ℤ ui) *ℤ (vj -ℤ uj) -ℤ (wj -ℤ uj) *ℤ (vi -ℤ ui) ≡ neg_ℤ ((vi -ℤ ui) *ℤ (wj -ℤ uj) -ℤ (vj -ℤ uj) *ℤ (wi -ℤ ui))
  on ui uj vi vj wi wj = omega (arith, ints, normal_is ui uj wi wj vi vj, normal_is ui uj vi vj wi wj)

-- the height of a vertex over a face
abbrev pub height_over : Vector → Vector → Vector → Vector → ℤ
height_over u v w p = scalar (face_normal u v w) (way u p)

-- the first two corners exchanged: the height turns
height_exchanged : (u v w p : Vector) → height_over v u w p ≡ neg_ℤ (height_over u v w p)
height_exchanged u v w p =
    face_height v u w p
    ∙ by (area (flat v) (flat w) (flat p)) (area (flat w) (flat u) (flat p)) (area (flat u) (flat v) (flat p)) _ _ _ (omega (arith, ints)) (omega (arith, ints))
    (omega (arith, ints)) (p.z -ℤ u.z) (p.z -ℤ v.z) (p.z -ℤ w.z)
    ∙ ap neg_ℤ (sym (face_height u v w p)) where
      by : (k l m l' k' m' : ℤ) → l' ≡ neg_ℤ l → k' ≡ neg_ℤ k → m' ≡ neg_ℤ m → (x y z : ℤ) → l' *ℤ y +ℤ k' *ℤ x +ℤ m' *ℤ z ≡ neg_ℤ (k *ℤ x +ℤ l *ℤ y +ℤ m *ℤ z)
      by k l m l' k' m' e f g x y z = rw (e, f, g) (simp spread (omega (arith, ints)))

-- the last two exchanged: likewise
height_changed : (u v w p : Vector) → height_over u w v p ≡ neg_ℤ (height_over u v w p)
height_changed u v w p =
    face_height u w v p
    ∙ by (area (flat v) (flat w) (flat p)) (area (flat w) (flat u) (flat p)) (area (flat u) (flat v) (flat p)) _ _ _ (omega (arith, ints)) (omega (arith, ints))
    (omega (arith, ints)) (p.z -ℤ u.z) (p.z -ℤ v.z) (p.z -ℤ w.z)
    ∙ ap neg_ℤ (sym (face_height u v w p)) where
      by : (k l m k' m' l' : ℤ) → k' ≡ neg_ℤ k → m' ≡ neg_ℤ m → l' ≡ neg_ℤ l → (x y z : ℤ) → k' *ℤ x +ℤ m' *ℤ z +ℤ l' *ℤ y ≡ neg_ℤ (k *ℤ x +ℤ l *ℤ y +ℤ m *ℤ z)
      by k l m k' m' l' e f g x y z = rw (e, f, g) (simp spread (omega (arith, ints)))

-- so an exchange of corners keeps whether a vertex is above a face
pub vertex_above_exchanged : (p u v w : Vector) → vertex_above p v u w ≡ vertex_above p u v w
vertex_above_exchanged p u v w = kept_above _ _ _ _ (normal_exchanged u v w) (height_exchanged u v w p)

-- that of the last two
pub vertex_above_changed : (p u v w : Vector) → vertex_above p u w v ≡ vertex_above p u v w
vertex_above_changed p u v w = kept_above _ _ _ _ (normal_changed u v w) (height_changed u v w p)

-- seen from the vertex
pub height_back : (u v w q : Vector) → scalar (face_normal u v w) (way q u) ≡ neg_ℤ (height_over u v w q)
height_back u v w q = by (face_normal u v w).x (face_normal u v w).y (face_normal u v w).z u.x u.y u.z q.x q.y q.z where
  by : (k l m x y z x' y' z' : ℤ) → k *ℤ (x -ℤ x') +ℤ l *ℤ (y -ℤ y') +ℤ m *ℤ (z -ℤ z') ≡ neg_ℤ (k *ℤ (x' -ℤ x) +ℤ l *ℤ (y' -ℤ y) +ℤ m *ℤ (z' -ℤ z))
  by k l m x y z x' y' z' = simp spread (omega (arith, ints))

-- and whether a face is above a vertex
pub face_above_exchanged : (u v w q : Vector) → face_above v u w q ≡ face_above u v w q
face_above_exchanged u v w q = kept_above _ _ _ _ (normal_exchanged u v w) (height_back v u w q ∙ ap neg_ℤ (height_exchanged u v w q) ∙ ap neg_ℤ (sym (height_back u v w q)))

-- that of the last two
pub face_above_changed : (u v w q : Vector) → face_above u w v q ≡ face_above u v w q
face_above_changed u v w q = kept_above _ _ _ _ (normal_changed u v w) (height_back u w v q ∙ ap neg_ℤ (height_changed u v w q) ∙ ap neg_ℤ (sym (height_back u v w q)))
