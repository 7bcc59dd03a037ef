-- A place in no closed face of a mesh has an apex from which it is on the surface of none of the tetrahedra: itself moved by 1 in x, by k in y and by the square of k in z.
use Rattle.std.specs.Prelude.{◌≡◌, ℤ, pos, neg_ℤ, ◌+ℤ◌, ◌-ℤ◌, ◌*ℤ◌, ◌≤ℤ◌, Bool, true, false, [], ◌∷◌, get_or}
use Rattle.std.proofs.Common.{arith, sym, ap, ◌∙◌}
use Rattle.std.proofs.lemmas.Int.{ints, by_lt_z}
use Rattle.std.proofs.Math.IntN.{*ℤ_comm}
use Rattle.chain_terms.specs.Sums.{total}
use Rattle.chain_laws.specs.Products.{add-mul, mul-sub, mul-neg, neg-mul}
use Rattle.mb_base.specs.declared.point.Corner.{Corner}
use Rattle.side_terms.specs.Corners.{axis, corner_at, IsFineCorner}
use Rattle.side_terms.specs.Fine.{fine_edge}
use Rattle.side_terms.specs.Sides.{Side, IsSide, face_of}
use Rattle.shadow_kernels.specs.Spots.{Between}
use Rattle.shadow_kernels.specs.Counts.{shadow_of}
use Rattle.shadow_kernels.specs.Shadows.{vertex_face, face_vertex}
use Rattle.plane_laws.specs.Signs.{Signed, Weak}
use Rattle.plane_laws.specs.Areas.{Place, area}
use Rattle.plane_laws.specs.Decisions.{Vector, way, scalar, face_normal}
use Rattle.plane_laws.specs.Heights.{flat, face_height}
use Rattle.exact_kernels.specs.Exact.{exact, position}
use Rattle.solid_terms.specs.Solids.{IsClear, IsClearOfAll, IsInTriangle, IsOffFaces, solid_winding, volume}
use Rattle.space_laws.specs.Lexical.{digits, digits_zero}
use Rattle.space_laws.specs.Places.{volume_is, volume_exchanged, volume_rotated, volumes_whole, places_distances, places_distances_y, places_heights}
use Rattle.solid_laws.specs.Bounds.{IsBounded, wide, wide_great, normal_x_under, normal_y_under, normal_z_under}
use Rattle.solid_laws.specs.Windings.{places_of, fine_at, winding_is_solid, winding_back_is_solid}

-- the volume by the normal of the triangle at p
pub volume_at : (p u v t : Vector) → volume p u v t ≡ scalar (face_normal p v t) (way p u)
volume_at p u v t =
    volume_is p u v t
    ∙ by (area (flat v) (flat t) (flat p)) (area (flat t) (flat u) (flat p)) (area (flat u) (flat v) (flat p)) _ _ _ p.z u.z v.z t.z
    (all (flat p) (flat u) (flat v) (flat t)) (one (flat p) (flat u) (flat t)) (two (flat p) (flat u) (flat v))
    ∙ sym (face_height p v t u)
  where
    all : (p u v t : Place) → area v t u ≡ area v t p +ℤ area t u p +ℤ area u v p
    all p u v t = omega (arith, ints)

    one : (p u t : Place) → area t p u ≡ neg_ℤ (area t u p)
    one p u t = omega (arith, ints)

    two : (p u v : Place) → area p v u ≡ neg_ℤ (area u v p)
    two p u v = omega (arith, ints)

    by : (a b c k l m p u v t : ℤ) → k ≡ a +ℤ b +ℤ c → l ≡ neg_ℤ b → m ≡ neg_ℤ c → a *ℤ (u -ℤ p) +ℤ b *ℤ (v -ℤ p) +ℤ c *ℤ (t -ℤ p) ≡ k *ℤ (u -ℤ p) +ℤ l *ℤ (u -ℤ v) +ℤ m *ℤ (u -ℤ t)
    by a b c k l m p u v t ek el em =
        rw (ek, el, em)
        (omega (
          arith,
          ints,
          mul-sub a u p,
          mul-sub b v p,
          mul-sub c t p,
          mul-sub (a +ℤ b +ℤ c) u p,
          add-mul (a +ℤ b) c u,
          add-mul a b u,
          add-mul (a +ℤ b) c p,
          add-mul a b p,
          neg-mul b (u -ℤ v),
          neg-mul c (u -ℤ t),
          mul-sub b u v,
          mul-sub c u t,
        ))

-- the apex
abbrev pub apex : ℤ → Corner → Corner
apex k p = record { at = (axis 0 p +ℤ pos 1) ∷ (axis 1 p +ℤ k) ∷ (axis 2 p +ℤ k *ℤ k) ∷ []; up = p.up }

-- a weak sign is strict where the number is not 0
strict : (s : Bool) (v : ℤ) → Weak s v → (v ≡ pos 0 → ⊥) → Signed s v
strict true v h f = by_lt_z (pos 0) v (λ l. l) (λ l. absurd (f (omega (arith, ints, h, l))))
strict false v h f = by_lt_z v (pos 0) (λ l. l) (λ l. absurd (f (omega (arith, ints, h, l))))

-- a place in a closed tetrahedron and in the plane of a face is in that face
in_face : (s : Bool) (p o u v t : Vector) → Signed s (volume o u v t) → volume p u v t ≡ pos 0 → Weak s (volume p o t v) → Weak s (volume p o u t) →
    Weak s (volume p o v u) → IsInTriangle p u v t
in_face s p o u v t h z k1 k2 k3 =
    by s (volume p u v t) (volume p o t v) (volume p o u t) (volume p o v u) (volume o u v t) z (volumes_whole p o u v t) h k1 k2 k3 (places_distances p o u v t)
    (places_distances_y p o u v t) (places_heights p o u v t) where
      gone : (v x y : ℤ) → v ≡ pos 0 → v *ℤ x +ℤ y ≡ y
      gone v x y e = ap (λ (w : ℤ). w *ℤ x +ℤ y) e ∙ omega (arith, ints, zero x) where
        zero : (x : ℤ) → pos 0 *ℤ x ≡ pos 0
        zero x = omega (arith, ints, *ℤ_comm (pos 0) x)

      turned : (a b c x y z : ℤ) → a *ℤ x +ℤ b *ℤ y +ℤ c *ℤ z ≡ pos 0 → neg_ℤ a *ℤ x +ℤ neg_ℤ b *ℤ y +ℤ neg_ℤ c *ℤ z ≡ pos 0
      turned a b c x y z e = omega (arith, ints, e, neg-mul a x, neg-mul b y, neg-mul c z)

      drop : (v0 v1 v2 v3 x0 x1 x2 x3 : ℤ) → v0 ≡ pos 0 → v0 *ℤ x0 +ℤ v1 *ℤ x1 +ℤ v2 *ℤ x2 +ℤ v3 *ℤ x3 ≡ pos 0 → v1 *ℤ x1 +ℤ v2 *ℤ x2 +ℤ v3 *ℤ x3 ≡ pos 0
      drop v0 v1 v2 v3 x0 x1 x2 x3 z e = omega (arith, ints, e, gone v0 x0 (pos 0) z)

      by : (s : Bool) (v0 v1 v2 v3 whole : ℤ) → v0 ≡ pos 0 → v0 +ℤ v1 +ℤ v2 +ℤ v3 ≡ whole → Signed s whole → Weak s v1 → Weak s v2 → Weak s v3 →
          v0 *ℤ (p.x -ℤ o.x) +ℤ v1 *ℤ (p.x -ℤ u.x) +ℤ v2 *ℤ (p.x -ℤ v.x) +ℤ v3 *ℤ (p.x -ℤ t.x) ≡ pos 0 →
          v0 *ℤ (p.y -ℤ o.y) +ℤ v1 *ℤ (p.y -ℤ u.y) +ℤ v2 *ℤ (p.y -ℤ v.y) +ℤ v3 *ℤ (p.y -ℤ t.y) ≡ pos 0 →
          v0 *ℤ (p.z -ℤ o.z) +ℤ v1 *ℤ (p.z -ℤ u.z) +ℤ v2 *ℤ (p.z -ℤ v.z) +ℤ v3 *ℤ (p.z -ℤ t.z) ≡ pos 0 → IsInTriangle p u v t
      by true v0 v1 v2 v3 whole z e h k1 k2 k3 ex ey ez = record {
        a = v1;
        b = v2;
        c = v3;
        first = k1;
        second = k2;
        third = k3;
        some = omega (arith, ints, z, e, h);
        x = drop v0 v1 v2 v3 _ _ _ _ z ex;
        y = drop v0 v1 v2 v3 _ _ _ _ z ey;
        z = drop v0 v1 v2 v3 _ _ _ _ z ez;
      }
      by false v0 v1 v2 v3 whole z e h k1 k2 k3 ex ey ez = record {
        a = neg_ℤ v1;
        b = neg_ℤ v2;
        c = neg_ℤ v3;
        first = omega (arith, ints, k1);
        second = omega (arith, ints, k2);
        third = omega (arith, ints, k3);
        some = omega (arith, ints, z, e, h);
        x = turned v1 v2 v3 _ _ _ (drop v0 v1 v2 v3 _ _ _ _ z ex);
        y = turned v1 v2 v3 _ _ _ (drop v0 v1 v2 v3 _ _ _ _ z ey);
        z = turned v1 v2 v3 _ _ _ (drop v0 v1 v2 v3 _ _ _ _ z ez);
      }

module _ (b : ℤ) (sized : pos 0 ≤ℤ b) (p : Corner) (hp : IsBounded b p) where
  -- the apex
  o : Corner
  o = apex (wide b) p

  -- where the apex lies in the plane of p and two corners, these three lie on one line
  in_line : (u v t : Corner) → IsBounded b v → IsBounded b t → volume (position p) (position o) (position v) (position t) ≡ pos 0 →
      volume (position p) (position u) (position v) (position t) ≡ pos 0
  unfolding o
  in_line u v t hv ht z =
      let n = face_normal (position p) (position v) (position t) in
      let m = wide b in
      let e : digits m (pos 0) (neg_ℤ n.z) (neg_ℤ n.y) (neg_ℤ n.x) ≡ pos 0 = spread n.x n.y n.z (way (position p) (position o)).x (way (position p) (position o)).y
      (way (position p) (position o)).z (sym (volume_at (position p) (position o) (position v) (position t)) ∙ z)
      (step (axis 0 p) (pos 1)) (step (axis 1 p) m) (step (axis 2 p) (m *ℤ m)) in
      let k = digits_zero m (neg_ℤ n.z) (neg_ℤ n.y) (neg_ℤ n.x) (wide_great b sized) (normal_z_under b sized p v t hp hv ht) (normal_y_under b sized p v t hp hv ht)
      (normal_x_under b sized p v t hp hv ht) e in
      volume_at (position p) (position u) (position v) (position t)
      ∙ flat_line n.x n.y n.z (way (position p) (position u)).x (way (position p) (position u)).y (way (position p) (position u)).z (back n.x k.2) (back n.y k.1) (back n.z k.0)
    where
      back : (z : ℤ) → neg_ℤ z ≡ pos 0 → z ≡ pos 0
      back z e = omega (arith, ints, e)

      step : (a d : ℤ) → (a +ℤ d) -ℤ a ≡ d
      step a d = omega (arith, ints)

      zero : (x : ℤ) → pos 0 *ℤ x ≡ pos 0
      zero x = omega (arith, ints, *ℤ_comm (pos 0) x)

      flat_line : (x y z d e f : ℤ) → x ≡ pos 0 → y ≡ pos 0 → z ≡ pos 0 → x *ℤ d +ℤ y *ℤ e +ℤ z *ℤ f ≡ pos 0
      flat_line x y z d e f ex ey ez = rw (ex, ey, ez) (omega (arith, ints, zero d, zero e, zero f))

      spread : (x y z d e f : ℤ) → x *ℤ d +ℤ y *ℤ e +ℤ z *ℤ f ≡ pos 0 → d ≡ pos 1 → e ≡ wide b → f ≡ wide b *ℤ wide b →
          digits (wide b) (pos 0) (neg_ℤ z) (neg_ℤ y) (neg_ℤ x) ≡ pos 0
      spread x y z d e f h ed ee ef = last (wide b) x y z (subst3 ed ee ef h) where
        subst3 : d ≡ pos 1 → e ≡ wide b → f ≡ wide b *ℤ wide b → x *ℤ d +ℤ y *ℤ e +ℤ z *ℤ f ≡ pos 0 → x *ℤ pos 1 +ℤ y *ℤ wide b +ℤ z *ℤ (wide b *ℤ wide b) ≡ pos 0
        subst3 ed ee ef h = ap (λ (q : ℤ). x *ℤ q +ℤ y *ℤ wide b +ℤ z *ℤ (wide b *ℤ wide b)) (sym ed) ∙ ap (λ (q : ℤ). x *ℤ d +ℤ y *ℤ q +ℤ z *ℤ (wide b *ℤ wide b)) (sym ee)
            ∙ ap (λ (q : ℤ). x *ℤ d +ℤ y *ℤ e +ℤ z *ℤ q) (sym ef) ∙ h

        last : (m x y z : ℤ) → x *ℤ pos 1 +ℤ y *ℤ m +ℤ z *ℤ (m *ℤ m) ≡ pos 0 → digits m (pos 0) (neg_ℤ z) (neg_ℤ y) (neg_ℤ x) ≡ pos 0
        last m x y z h = omega (
          arith,
          ints,
          h,
          one x,
          *ℤ_comm y m,
          *ℤ_comm z (m *ℤ m),
          mul-neg (m *ℤ m) z,
          mul-neg m y,
          *ℤ_comm ((m *ℤ m) *ℤ m) (pos 0),
          zero
              ((m *ℤ m) *ℤ m),
        ) where
          one : (x : ℤ) → x *ℤ pos 1 ≡ x
          one x = omega (arith, ints)

  -- so p is on the surface of no tetrahedron of the apex and a triangle in which it is not
  pub apex_clear : (u v t : Corner) → IsBounded b u → IsBounded b v → IsBounded b t → (IsInTriangle (position p) (position u) (position v) (position t) → ⊥) →
      IsClear (position p) (position (apex (wide b) p)) (position u) (position v) (position t)
  unfolding o
  apex_clear u v t hu hv ht outside = record {
    strict = λ s h k0 k1 k2 k3.
        let n0 : volume (position p) (position u) (position v) (position t) ≡ pos 0 → ⊥ =
        λ z. outside (in_face s (position p) (position (apex (wide b) p)) (position u) (position v) (position t) h z k1 k2 k3) in
        record {
          first = strict s _ k0 n0;
          second = strict s _ k1 (λ z. n0 (turn_last (position p) (position u) (position v) (position t) (in_line u t v ht hv z)));
          third = strict s _ k2 (λ z. n0 (turn_first (position p) (position u) (position v) (position t) (in_line v u t hu ht z)));
          fourth = strict s _ k3 (λ z. n0 (turn_all (position p) (position u) (position v) (position t) (in_line t v u hv hu z)));
        };
  }
    where
      turn_last : (p u v t : Vector) → volume p u t v ≡ pos 0 → volume p u v t ≡ pos 0
      turn_last p u v t z = let e = volume_exchanged p u v t in omega (arith, ints, e, z)

      turn_first : (p u v t : Vector) → volume p v u t ≡ pos 0 → volume p u v t ≡ pos 0
      turn_first p u v t z = let e = volume_exchanged p v t u in let f = volume_rotated p u v t in omega (arith, ints, e, f, z)

      turn_all : (p u v t : Vector) → volume p t v u ≡ pos 0 → volume p u v t ≡ pos 0
      turn_all p u v t z = let e = volume_exchanged p t u v in let f = volume_rotated p t u v in omega (arith, ints, e, f, z)

-- the apex of a corner of fine coordinates
abbrev pub apex_of : Corner → Vector
apex_of p = position (apex (wide fine_edge) p)

-- the bound of fine coordinates is not negative
fine_sized : pos 0 ≤ℤ fine_edge
fine_sized = omega (arith, ints)

-- fine corners are within it
fine_within : (c : Corner) → IsFineCorner c → IsBounded fine_edge c
fine_within c h = record {
  x = record { low = h.x.low; high = h.x.high };
  y = record { low = h.y.low; high = h.y.high };
  z = record { low = h.z.low; high = h.z.high };
}

-- so from its apex a place off the faces is on the surface of no tetrahedron
pub off_faces_clear : (p : Corner) (q : Side) → IsFineCorner p → IsSide q → IsOffFaces (position p) (places_of q) q.triples →
    IsClearOfAll (position p) (apex_of p) (places_of q) q.triples
off_faces_clear p q fine side off i d l =
    let t = get_or q.triples i d in
    apex_clear fine_edge fine_sized p (fine_within p fine) (corner_at q.corners t.0) (corner_at q.corners t.1) (corner_at q.corners t.2)
    (fine_within _ (fine_at q.corners side.fine t.0)) (fine_within _ (fine_at q.corners side.fine t.1)) (fine_within _ (fine_at q.corners side.fine t.2)) (off i d l)

-- the winding number of a corner that lies in no closed face is the geometric one
pub winding_off_faces : (w : Between) (p : Corner) (q : Side) → IsFineCorner p → IsSide q → IsOffFaces (position p) (places_of q) q.triples →
    neg_ℤ (total (λ t. shadow_of (vertex_face exact w (p ∷ []) (face_of q.corners t))) q.triples) ≡ solid_winding (position p) (apex_of p) (places_of q) q.triples
winding_off_faces w p q fine side off = winding_is_solid w p (apex_of p) q side (off_faces_clear p q fine side off)

-- and that of a corner of Q in a side of P
pub winding_back_off_faces : (w : Between) (q : Corner) (p : Side) → IsFineCorner q → IsSide p → IsOffFaces (position q) (places_of p) p.triples →
    neg_ℤ (total (λ t. shadow_of (face_vertex exact w (face_of p.corners t) (q ∷ []))) p.triples) ≡ solid_winding (position q) (apex_of q) (places_of p) p.triples
winding_back_off_faces w q p fine side off = winding_back_is_solid w q (apex_of q) p side (off_faces_clear q p fine side off)
