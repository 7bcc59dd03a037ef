-- Five places in space are balanced: the areas and volumes of an edge and a face.
use Rattle.std.specs.Prelude.{◌≡◌, ℤ, pos, neg_ℤ, ◌+ℤ◌, ◌-ℤ◌, ◌*ℤ◌}
use Rattle.std.proofs.Common.{arith, refl, sym, ap, ◌∙◌}
use Rattle.std.proofs.lemmas.Int.{ints}
use Rattle.chain_laws.specs.Products.{mul-neg, neg-mul}
use Rattle.plane_laws.specs.Areas.{Place, area}
use Rattle.plane_laws.specs.Decisions.{Vector, face_normal}
use Rattle.plane_laws.specs.Heights.{flat}
use Rattle.plane_laws.specs.Moved.{times_zero}
use Rattle.solid_terms.specs.Solids.{volume}
use Rattle.space_laws.specs.Fives.{AreFive}
use Rattle.space_laws.specs.Places.{places_balanced, volume_exchanged, volume_rotated, volumes_whole}

-- a tetrahedron with an equal pair of corners has no volume
volume_none : (p u v : Vector) → volume p p u v ≡ pos 0
volume_none p u v = by (face_normal p u v).x (face_normal p u v).y (face_normal p u v).z (p.x -ℤ p.x) (p.y -ℤ p.y) (p.z -ℤ p.z) (omega (arith, ints)) (omega (arith, ints))
    (omega (arith, ints)) where
      by : (a b c x y z : ℤ) → x ≡ pos 0 → y ≡ pos 0 → z ≡ pos 0 → a *ℤ x +ℤ b *ℤ y +ℤ c *ℤ z ≡ pos 0
      by a b c x y z ex ey ez =
          omega (arith, ints, ap (λ (t : ℤ). a *ℤ t) ex, ap (λ (t : ℤ). b *ℤ t) ey, ap (λ (t : ℤ). c *ℤ t) ez, times_zero a, times_zero b, times_zero c)

-- the first two corners exchanged turn it
pub volume_based : (a b u v : Vector) → volume b a u v ≡ neg_ℤ (volume a b u v)
volume_based a b u v =
    by _ _ _ _ _ _ (volumes_whole b a b u v) (volume_none b u v) (sym (volume_rotated b a b v) ∙ volume_none b v a)
    (volume_rotated b b a u ∙ volume_none b a u) (volume_exchanged b a u v)
  where
    by : (w x y z k m : ℤ) → x +ℤ m +ℤ y +ℤ z ≡ w → x ≡ pos 0 → y ≡ pos 0 → z ≡ pos 0 → m ≡ neg_ℤ k → k ≡ neg_ℤ w
    by w x y z k m e ex ey ez em = omega (arith, ints, e, ex, ey, ez, em)

-- an area moved on, and turned
area_on : (s t v : Place) → area t v s ≡ area s t v
area_on s t v = omega (arith, ints)

-- with two places exchanged
area_back : (s t v : Place) → area t s v ≡ neg_ℤ (area s t v)
area_back s t v = omega (arith, ints)

-- a balance with its numbers named otherwise, the first turned twice and the last turned once
renamed_u : (x1 x2 x3 y1 y2 y3 p1 p2 p3 q1 q2 q3 : ℤ) → x1 *ℤ y1 +ℤ x2 *ℤ y2 +ℤ x3 *ℤ y3 ≡ pos 0 → x1 ≡ neg_ℤ p1 → x2 ≡ p2 → x3 ≡ p3 → y1 ≡ neg_ℤ q1 → y2 ≡ q2 → y3 ≡ neg_ℤ q3 →
    p1 *ℤ q1 +ℤ p2 *ℤ q2 +ℤ p3 *ℤ neg_ℤ q3 ≡ pos 0
renamed_u x1 x2 x3 y1 y2 y3 p1 p2 p3 q1 q2 q3 e ex1 ex2 ex3 ey1 ey2 ey3 = by (same ex1 ex2 ex3 ey1 ey2 ey3 e) where
  same : x1 ≡ neg_ℤ p1 → x2 ≡ p2 → x3 ≡ p3 → y1 ≡ neg_ℤ q1 → y2 ≡ q2 → y3 ≡ neg_ℤ q3 → x1 *ℤ y1 +ℤ x2 *ℤ y2 +ℤ x3 *ℤ y3 ≡ pos 0 →
      neg_ℤ p1 *ℤ neg_ℤ q1 +ℤ p2 *ℤ q2 +ℤ p3 *ℤ neg_ℤ q3 ≡ pos 0
  same f1 f2 f3 g1 g2 g3 e = cc

  by : neg_ℤ p1 *ℤ neg_ℤ q1 +ℤ p2 *ℤ q2 +ℤ p3 *ℤ neg_ℤ q3 ≡ pos 0 → p1 *ℤ q1 +ℤ p2 *ℤ q2 +ℤ p3 *ℤ neg_ℤ q3 ≡ pos 0
  by e = omega (arith, ints, e, neg-mul p1 (neg_ℤ q1), mul-neg p1 q1)

-- with all turned
renamed_ab : (x1 x2 x3 y1 y2 y3 p1 p2 p3 q1 q2 q3 : ℤ) → x1 *ℤ y1 +ℤ x2 *ℤ y2 +ℤ x3 *ℤ y3 ≡ pos 0 → x1 ≡ neg_ℤ p1 → x2 ≡ neg_ℤ p2 → x3 ≡ neg_ℤ p3 → y1 ≡ q1 → y2 ≡ q2 → y3 ≡ q3 →
    p1 *ℤ q1 +ℤ p2 *ℤ q2 +ℤ p3 *ℤ q3 ≡ pos 0
renamed_ab x1 x2 x3 y1 y2 y3 p1 p2 p3 q1 q2 q3 e ex1 ex2 ex3 ey1 ey2 ey3 = by (same ex1 ex2 ex3 ey1 ey2 ey3 e) where
  same : x1 ≡ neg_ℤ p1 → x2 ≡ neg_ℤ p2 → x3 ≡ neg_ℤ p3 → y1 ≡ q1 → y2 ≡ q2 → y3 ≡ q3 → x1 *ℤ y1 +ℤ x2 *ℤ y2 +ℤ x3 *ℤ y3 ≡ pos 0 →
      neg_ℤ p1 *ℤ q1 +ℤ neg_ℤ p2 *ℤ q2 +ℤ neg_ℤ p3 *ℤ q3 ≡ pos 0
  same f1 f2 f3 g1 g2 g3 e = cc

  by : neg_ℤ p1 *ℤ q1 +ℤ neg_ℤ p2 *ℤ q2 +ℤ neg_ℤ p3 *ℤ q3 ≡ pos 0 → p1 *ℤ q1 +ℤ p2 *ℤ q2 +ℤ p3 *ℤ q3 ≡ pos 0
  by e = omega (arith, ints, e, neg-mul p1 q1, neg-mul p2 q2, neg-mul p3 q3)

-- with the last turned
renamed_uv : (x1 x2 x3 y1 y2 y3 p1 p2 p3 q1 q2 q3 : ℤ) → x1 *ℤ y1 +ℤ x2 *ℤ y2 +ℤ x3 *ℤ y3 ≡ pos 0 → x1 ≡ p1 → x2 ≡ p2 → x3 ≡ neg_ℤ p3 → y1 ≡ q1 → y2 ≡ q2 → y3 ≡ q3 →
    p1 *ℤ q1 +ℤ p2 *ℤ q2 +ℤ p3 *ℤ neg_ℤ q3 ≡ pos 0
renamed_uv x1 x2 x3 y1 y2 y3 p1 p2 p3 q1 q2 q3 e ex1 ex2 ex3 ey1 ey2 ey3 = by (same ex1 ex2 ex3 ey1 ey2 ey3 e) where
  same : x1 ≡ p1 → x2 ≡ p2 → x3 ≡ neg_ℤ p3 → y1 ≡ q1 → y2 ≡ q2 → y3 ≡ q3 → x1 *ℤ y1 +ℤ x2 *ℤ y2 +ℤ x3 *ℤ y3 ≡ pos 0 → p1 *ℤ q1 +ℤ p2 *ℤ q2 +ℤ neg_ℤ p3 *ℤ q3 ≡ pos 0
  same f1 f2 f3 g1 g2 g3 e = cc

  by : p1 *ℤ q1 +ℤ p2 *ℤ q2 +ℤ neg_ℤ p3 *ℤ q3 ≡ pos 0 → p1 *ℤ q1 +ℤ p2 *ℤ q2 +ℤ p3 *ℤ neg_ℤ q3 ≡ pos 0
  by e = omega (arith, ints, e, neg-mul p3 q3, mul-neg p3 q3)

-- with the first and the others turned, which are named by their negatives
renamed_b : (x1 x2 x3 y1 y2 y3 q p2 p3 : ℤ) → x1 *ℤ y1 +ℤ x2 *ℤ y2 +ℤ x3 *ℤ neg_ℤ y3 ≡ pos 0 → y1 ≡ neg_ℤ q → x2 ≡ neg_ℤ p2 → x3 ≡ neg_ℤ p3 →
    neg_ℤ x1 *ℤ neg_ℤ q +ℤ p2 *ℤ y2 +ℤ p3 *ℤ neg_ℤ y3 ≡ pos 0
renamed_b x1 x2 x3 y1 y2 y3 q p2 p3 e ey ex2 ex3 = by (same ey ex2 ex3 e) where
  same : y1 ≡ neg_ℤ q → x2 ≡ neg_ℤ p2 → x3 ≡ neg_ℤ p3 → x1 *ℤ y1 +ℤ x2 *ℤ y2 +ℤ x3 *ℤ neg_ℤ y3 ≡ pos 0 → x1 *ℤ neg_ℤ q +ℤ neg_ℤ p2 *ℤ y2 +ℤ neg_ℤ p3 *ℤ neg_ℤ y3 ≡ pos 0
  same f g h e = cc

  by : x1 *ℤ neg_ℤ q +ℤ neg_ℤ p2 *ℤ y2 +ℤ neg_ℤ p3 *ℤ neg_ℤ y3 ≡ pos 0 → neg_ℤ x1 *ℤ neg_ℤ q +ℤ p2 *ℤ y2 +ℤ p3 *ℤ neg_ℤ y3 ≡ pos 0
  by e = omega (arith, ints, e, neg-mul x1 (neg_ℤ q), neg-mul p2 y2, neg-mul p3 (neg_ℤ y3))

-- at a and a corner of the face
at_start : (a b u v t : Vector) → volume a u v t *ℤ area (flat a) (flat b) (flat u) +ℤ volume a b t u *ℤ area (flat u) (flat v) (flat a)
    +ℤ volume a b u v *ℤ neg_ℤ (area (flat t) (flat u) (flat a)) ≡ pos 0
at_start a b u v t =
    renamed_u _ _ _ _ _ _ _ _ _ _ _ _ (places_balanced a u b v t).at0 (volume_exchanged a u v t) (sym (volume_rotated a u b t)) (volume_rotated a b u v)
    (area_back (flat b) (flat u) (flat a) ∙ ap neg_ℤ (area_on (flat a) (flat b) (flat u))) refl (area_back (flat t) (flat u) (flat a))

-- at b and a corner of the face
at_end : (a b u v t : Vector) → neg_ℤ (volume b u v t) *ℤ neg_ℤ (area (flat a) (flat b) (flat u)) +ℤ volume a b t u *ℤ area (flat u) (flat v) (flat b)
    +ℤ volume a b u v *ℤ neg_ℤ (area (flat t) (flat u) (flat b)) ≡ pos 0
at_end a b u v t =
    renamed_b _ _ _ _ _ _ _ _ _ (at_start b a u v t) (area_back (flat a) (flat b) (flat u)) (volume_based a b t u) (volume_based a b u v)

-- at two corners of the face
at_edge : (a b u v t : Vector) → neg_ℤ (volume b u v t) *ℤ area (flat u) (flat v) (flat a) +ℤ volume a u v t *ℤ area (flat u) (flat v) (flat b)
    +ℤ volume a b u v *ℤ neg_ℤ (area (flat u) (flat v) (flat t)) ≡ pos 0
at_edge a b u v t =
    renamed_uv _ _ _ _ _ _ _ _ _ _ _ _ (places_balanced u v a b t).at0 (volume_rotated u b v t ∙ volume_based b u v t)
    (sym (volume_rotated u v a t) ∙ volume_based a u t v ∙ ap neg_ℤ (volume_exchanged a u v t) ∙ twice (volume a u v t))
    (volume_rotated u a v b ∙ volume_based a u v b ∙ ap neg_ℤ (volume_rotated a b u v)) (area_on (flat u) (flat v) (flat a)) (area_on (flat u) (flat v) (flat b))
    (area_on (flat u) (flat v) (flat t))
  where
    twice : (z : ℤ) → neg_ℤ (neg_ℤ z) ≡ z
    twice z = omega (arith, ints)

-- the numbers of the second and of the third edge, from those of the first
edge_put : (x x' z z' w r : ℤ) → x ≡ x' → z ≡ z' → r ≡ w → (p q s : ℤ) → neg_ℤ x *ℤ p +ℤ z *ℤ q +ℤ s *ℤ neg_ℤ r ≡ pos 0 → neg_ℤ x' *ℤ p +ℤ z' *ℤ q +ℤ s *ℤ neg_ℤ w ≡ pos 0
edge_put x x' z z' w r e f g p q s h = cc

-- all five
pub five_places : (a b u v t : Vector) → AreFive (area (flat u) (flat v) (flat a)) (area (flat v) (flat t) (flat a)) (area (flat t) (flat u) (flat a))
    (area (flat u) (flat v) (flat b)) (area (flat v) (flat t) (flat b)) (area (flat t) (flat u) (flat b))
    (area (flat a) (flat b) (flat u)) (area (flat a) (flat b) (flat v)) (area (flat a) (flat b) (flat t)) (area (flat u) (flat v) (flat t))
    (volume a u v t) (neg_ℤ (volume b u v t)) (volume a b u v) (volume a b v t) (volume a b t u)
five_places a b u v t =
    let on_a = volume_rotated a u v t in
    let on_b = volume_rotated b u v t in
    let back_a = volume_rotated a v t u ∙ on_a in
    let back_b = volume_rotated b v t u ∙ on_b in
    record {
      uv = at_edge a b u v t;
      vt = edge_put _ _ _ _ _ _ on_b on_a (area_on (flat u) (flat v) (flat t)) _ _ _ (at_edge a b v t u);
      tu = edge_put _ _ _ _ _ _ back_b back_a (area_on (flat v) (flat t) (flat u) ∙ area_on (flat u) (flat v) (flat t)) _ _ _ (at_edge a b t u v);
      ab = renamed_ab _ _ _ _ _ _ _ _ _ _ _ _ (places_balanced a b u v t).at0 (volume_exchanged a b v t) (volume_exchanged a b t u) (volume_exchanged a b u v)
          (area_on (flat a) (flat b) (flat u)) (area_on (flat a) (flat b) (flat v)) (area_on (flat a) (flat b) (flat t));
      au = at_start a b u v t;
      av = put3 _ _ _ (volume a b u v) (area (flat v) (flat t) (flat a)) (volume a b v t) (neg_ℤ (area (flat u) (flat v) (flat a))) on_a (at_start a b v t u);
      at = put3 _ _ _ (volume a b v t) (area (flat t) (flat u) (flat a)) (volume a b t u) (neg_ℤ (area (flat v) (flat t) (flat a))) back_a (at_start a b t u v);
      bu = at_end a b u v t;
      bv = put3_end _ _ _ (volume a b u v) (area (flat v) (flat t) (flat b)) (volume a b v t) (neg_ℤ (area (flat u) (flat v) (flat b))) on_b (at_end a b v t u);
      bt = put3_end _ _ _ (volume a b v t) (area (flat t) (flat u) (flat b)) (volume a b t u) (neg_ℤ (area (flat v) (flat t) (flat b))) back_b (at_end a b t u v);
      sum_a = whole (flat a) (flat u) (flat v) (flat t);
      sum_b = whole (flat b) (flat u) (flat v) (flat t);
    }
  where
    whole : (p u v t : Place) → area u v p +ℤ area v t p +ℤ area t u p ≡ area u v t
    whole p u v t = omega (arith, ints)

    put3 : (x x' y p q r s : ℤ) → x ≡ x' → x *ℤ y +ℤ p *ℤ q +ℤ r *ℤ s ≡ pos 0 → x' *ℤ y +ℤ p *ℤ q +ℤ r *ℤ s ≡ pos 0
    put3 x x' y p q r s e h = cc

    put3_end : (x x' y p q r s : ℤ) → x ≡ x' → neg_ℤ x *ℤ y +ℤ p *ℤ q +ℤ r *ℤ s ≡ pos 0 → neg_ℤ x' *ℤ y +ℤ p *ℤ q +ℤ r *ℤ s ≡ pos 0
    put3_end x x' y p q r s e h = cc
