-- A place in the plane of a triangle, by the areas that it makes with the edges.
use Rattle.std.specs.Prelude.{◌≡◌, ◌≢◌, ℤ, pos, neg_ℤ, ◌+ℤ◌, ◌-ℤ◌, ◌*ℤ◌, Bool, true, false, ◌&&◌, if◌then◌else◌}
use Rattle.std.specs.Ordering.{int_eq}
use Rattle.std.proofs.Common.{arith, refl, sym, ap, subst, ◌∙◌}
use Rattle.std.proofs.lemmas.Int.{ints}
use Rattle.std.proofs.lemmas.Bool.Decides.{Decides-int_eq}
use Rattle.std.proofs.Math.IntN.{*ℤ_comm}
use Rattle.chain_laws.specs.Products.{add-mul, mul-sub, sub-mul, mul-neg, neg-mul}
use Rattle.plane_laws.specs.Above.{normal_is}
use Rattle.plane_laws.specs.Areas.{Place, area}
use Rattle.plane_laws.specs.Decisions.{Vector, way, scalar, face_normal}
use Rattle.plane_laws.specs.Excluded.{face_balance}
use Rattle.plane_laws.specs.Heights.{flat, face_height}
use Rattle.solid_terms.specs.Solids.{volume}
use Rattle.space_laws.specs.Places.{areas_relate, face_012_y}
use Rattle.inspection_terms.specs.Triangles.{Corners, is_flat}
use Rattle.inspection_laws.specs.Signs.{turn, moved_on, seen_along, is_zero}

-- n times the place s is the sum of the corners times a, b and c
pub record IsSum (n : ℤ) (s : Vector) (t : Corners) (a b c : ℤ) : Type 0 where
  pub whole : a +ℤ b +ℤ c ≡ n
  pub x : a *ℤ t.0.x +ℤ b *ℤ t.1.x +ℤ c *ℤ t.2.x ≡ n *ℤ s.x
  pub y : a *ℤ t.0.y +ℤ b *ℤ t.1.y +ℤ c *ℤ t.2.y ≡ n *ℤ s.y
  pub z : a *ℤ t.0.z +ℤ b *ℤ t.1.z +ℤ c *ℤ t.2.z ≡ n *ℤ s.z

-- a turn is an area
pub turn_is : (s t v : Vector) → turn s t v ≡ area (flat s) (flat t) (flat v)
turn_is s t v = normal_is s.x s.y t.x t.y v.x v.y

-- from differences to sums
plain : (a b c n u v t s : ℤ) → a +ℤ b +ℤ c ≡ n → (s -ℤ u) *ℤ a +ℤ (s -ℤ v) *ℤ b +ℤ (s -ℤ t) *ℤ c ≡ pos 0 → a *ℤ u +ℤ b *ℤ v +ℤ c *ℤ t ≡ n *ℤ s
plain a b c n u v t s w e =
    let d : (a +ℤ b +ℤ c) *ℤ s ≡ n *ℤ s = ap (λ (z : ℤ). z *ℤ s) w in
    omega (
      arith,
      ints,
      e,
      d,
      add-mul (a +ℤ b) c s,
      add-mul a b s,
      sub-mul s u a,
      sub-mul s v b,
      sub-mul s t c,
      *ℤ_comm s a,
      *ℤ_comm s b,
      *ℤ_comm s c,
      *ℤ_comm u a,
      *ℤ_comm v b,
      *ℤ_comm t c,
    )

-- the same from differences in the other order
swapped : (a b c u v t s : ℤ) → a *ℤ (s -ℤ u) +ℤ b *ℤ (s -ℤ v) +ℤ c *ℤ (s -ℤ t) ≡ pos 0 → (s -ℤ u) *ℤ a +ℤ (s -ℤ v) *ℤ b +ℤ (s -ℤ t) *ℤ c ≡ pos 0
swapped a b c u v t s e = omega (arith, ints, e, *ℤ_comm (s -ℤ u) a, *ℤ_comm (s -ℤ v) b, *ℤ_comm (s -ℤ t) c)

-- the scalar product with the way back
back : (n p u : Vector) → scalar n (way u p) ≡ neg_ℤ (scalar n (way p u))
back n p u = omega (arith, ints, mul-sub n.x u.x p.x, mul-sub n.x p.x u.x, mul-sub n.y u.y p.y, mul-sub n.y p.y u.y, mul-sub n.z u.z p.z, mul-sub n.z p.z u.z)

-- seen along z
flat_sum : (s u v t : Vector) → volume s u v t ≡ pos 0 → IsSum (turn u v t) s (u, v, t) (turn v t s) (turn t u s) (turn u v s)
flat_sum s u v t level =
    let A = area (flat v) (flat t) (flat s) in
    let B = area (flat t) (flat u) (flat s) in
    let C = area (flat u) (flat v) (flat s) in
    let N = area (flat u) (flat v) (flat t) in
    let w : A +ℤ B +ℤ C ≡ N = omega (arith, ints) in
    let in_x : (s.x -ℤ u.x) *ℤ A +ℤ (s.x -ℤ v.x) *ℤ B +ℤ (s.x -ℤ t.x) *ℤ C ≡ pos 0 = omega (arith, ints, face_balance (flat u) (flat v) (flat t) (flat s)) in
    let turned : B ≡ neg_ℤ (area (flat u) (flat t) (flat s)) = omega (arith, ints) in
    let in_y : (s.y -ℤ u.y) *ℤ A +ℤ (s.y -ℤ v.y) *ℤ B +ℤ (s.y -ℤ t.y) *ℤ C ≡ pos 0 = omega
    (arith, ints, face_012_y (flat s) (flat u) (flat v) (flat t), ap (λ (z : ℤ). (s.y -ℤ v.y) *ℤ z) turned) in
    let in_z : (s.z -ℤ u.z) *ℤ A +ℤ (s.z -ℤ v.z) *ℤ B +ℤ (s.z -ℤ t.z) *ℤ C ≡ pos 0 =
    swapped A B C u.z v.z t.z s.z (sym (face_height u v t s) ∙ back (face_normal u v t) s u ∙ ap neg_ℤ level) in
    rw (turn_is u v t, turn_is v t s, turn_is t u s, turn_is u v s)
    (record { whole = w; x = plain A B C N u.x v.x t.x s.x w in_x; y = plain A B C N u.y v.y t.y s.y w in_y; z = plain A B C N u.z v.z t.z s.z w in_z })

-- what holds of three places that are seen along an axis on which they have an area
pub record IsSeen (f : Vector → Vector) (t : Corners) : Type 0 where
  pub some : turn (f t.0) (f t.1) (f t.2) ≢ pos 0
  pub sum : (s : Vector) → volume s t.0 t.1 t.2 ≡ pos 0 →
      IsSum (turn (f t.0) (f t.1) (f t.2)) s t (turn (f t.1) (f t.2) (f s)) (turn (f t.2) (f t.0) (f s)) (turn (f t.0) (f t.1) (f s))

-- a volume stays where the axes move on
volume_moved_on : (p u v t : Vector) → volume (moved_on p) (moved_on u) (moved_on v) (moved_on t) ≡ volume p u v t
volume_moved_on p u v t = rotated ((face_normal u v t).x *ℤ (u.x -ℤ p.x)) ((face_normal u v t).y *ℤ (u.y -ℤ p.y)) ((face_normal u v t).z *ℤ (u.z -ℤ p.z)) where
  rotated : (x y z : ℤ) → y +ℤ z +ℤ x ≡ x +ℤ y +ℤ z
  rotated x y z = omega (arith, ints)

-- sums, too
sum_back : (n : ℤ) (s : Vector) (t : Corners) (a b c : ℤ) → IsSum n (moved_on s) (moved_on t.0, moved_on t.1, moved_on t.2) a b c → IsSum n s t a b c
sum_back n s t a b c h = record { whole = h.whole; x = h.z; y = h.x; z = h.y }

not_zero : (z : ℤ) → int_eq z (pos 0) ≡ false → z ≢ pos 0
not_zero z e k = let t : int_eq z (pos 0) ≡ true = (Decides-int_eq z (pos 0)).1 k in cc

seen_z : (t : Corners) → (face_normal t.0 t.1 t.2).z ≢ pos 0 → IsSeen (λ v. v) t
seen_z t some = record { some = some; sum = λ s level. flat_sum s t.0 t.1 t.2 level }

seen_x : (t : Corners) → (face_normal t.0 t.1 t.2).x ≢ pos 0 → IsSeen moved_on t
seen_x t some = record {
  some = some;
  sum = λ s level. sum_back _ s t _ _ _ (flat_sum (moved_on s) (moved_on t.0) (moved_on t.1) (moved_on t.2) (volume_moved_on s t.0 t.1 t.2 ∙ level));
}

seen_y : (t : Corners) → (face_normal t.0 t.1 t.2).y ≢ pos 0 → IsSeen (λ v. moved_on (moved_on v)) t
seen_y t some = record {
  some = some;
  sum = λ s level.
      sum_back _ s t _ _ _
      (sum_back _ (moved_on s) (moved_on t.0, moved_on t.1, moved_on t.2) _ _ _
      (flat_sum (moved_on (moved_on s)) (moved_on (moved_on t.0)) (moved_on (moved_on t.1)) (moved_on (moved_on t.2))
      (volume_moved_on (moved_on s) (moved_on t.0) (moved_on t.1) (moved_on t.2) ∙ volume_moved_on s t.0 t.1 t.2 ∙ level)));
}

-- the axis along which a triangle is seen
chosen : Bool → Bool → Vector → Vector
chosen a b v = if a then (if b then moved_on (moved_on v) else moved_on v) else v

pub seen : (t : Corners) → is_flat t ≡ false → IsSeen (seen_along (face_normal t.0 t.1 t.2)) t
unfolding chosen
seen t flat = by (is_zero (face_normal t.0 t.1 t.2).z) (is_zero (face_normal t.0 t.1 t.2).x) refl refl where
  by : (a b : Bool) → is_zero (face_normal t.0 t.1 t.2).z ≡ a → is_zero (face_normal t.0 t.1 t.2).x ≡ b → IsSeen (chosen a b) t
  by false b e f = seen_z t (not_zero _ e)
  by true false e f = seen_x t (not_zero _ f)
  by true true e f = seen_y t (not_zero _ (last (is_zero (face_normal t.0 t.1 t.2).x) (is_zero (face_normal t.0 t.1 t.2).y) (is_zero (face_normal t.0 t.1 t.2).z) flat e f)) where
    last : (x y z : Bool) → (x && y && z) ≡ false → z ≡ true → x ≡ true → y ≡ false
    last x true z h e f = sym (cc) ∙ h
    last x false z h e f = refl

-- the areas of an edge with a corner, by those of its ends with the edges there
pub areas_across : (p q u v t : Vector) → turn u v t *ℤ turn p q u ≡ turn t u p *ℤ turn u v q -ℤ turn u v p *ℤ turn t u q
areas_across p q u v t =
    rw (turn_is u v t, turn_is p q u, turn_is t u p, turn_is u v q, turn_is u v p, turn_is t u q)
    (by (area U V T) (area V T U) (area P Q U) (area P V U) (area U V P) (area Q T U) (area T U Q) (area P T U) (area T U P) (area Q V U) (area U V Q)
    (omega (arith, ints)) (omega (arith, ints)) (omega (arith, ints)) (omega (arith, ints)) (omega (arith, ints)) (areas_relate U P Q V T))
  where
    U : Place
    U = flat u

    V : Place
    V = flat v

    T : Place
    T = flat t

    P : Place
    P = flat p

    Q : Place
    Q = flat q

    by : (n n' g k c l b' m b k' c' : ℤ) → n' ≡ n → k ≡ neg_ℤ c → l ≡ b' → m ≡ b → k' ≡ neg_ℤ c' → g *ℤ n' -ℤ k *ℤ l +ℤ m *ℤ k' ≡ pos 0 → n *ℤ g ≡ b *ℤ c' -ℤ c *ℤ b'
    by n n' g k c l b' m b k' c' en ek el em ek' e =
        let h : g *ℤ n -ℤ neg_ℤ c *ℤ b' +ℤ b *ℤ neg_ℤ c' ≡ pos 0 = rw (en, ek, el, em, ek') at e in
        omega (arith, ints, h, *ℤ_comm g n, neg-mul c b', mul-neg b c')
