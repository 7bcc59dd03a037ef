-- The number of crossings of an edge of P and a face of Q under exact tests: the common sign of five volumes of the moved edge and the face.
use Rattle.std.specs.Prelude.{◌≡◌, ℤ, pos, neg_ℤ, ◌+ℤ◌, ◌-ℤ◌, ◌*ℤ◌, ◌≤ℤ◌, ◌⊎◌, Bool, true, false, not, [], ◌∷◌}
use Rattle.std.proofs.Common.{arith, refl, sym, ap, inl, inr, ◌∙◌}
use Rattle.std.proofs.lemmas.Int.{ints}
use Rattle.mb_base.specs.declared.point.Corner.{Corner}
use Rattle.shadow_kernels.specs.Spots.{Between}
use Rattle.shadow_kernels.specs.Shadows.{edge_edge, vertex_face}
use Rattle.edge_face.specs.Crossings.{Settle, edge_face_crossing, edge_number, number_of, p_point}
use Rattle.edge_face.specs.Laws.{lift}
use Rattle.plane_laws.specs.Areas.{area}
use Rattle.plane_laws.specs.Excluded.{face_balance}
use Rattle.plane_laws.specs.Heights.{flat}
use Rattle.plane_laws.specs.Signs.{Signed}
use Rattle.plane_laws.specs.Decisions.{Vector}
use Rattle.exact_kernels.specs.Exact.{exact, exact_beyond, position}
use Rattle.solid_terms.specs.Solids.{volume}
use Rattle.space_laws.specs.Crossed.{Mark, Pair, crossed}
use Rattle.space_laws.specs.Edges.{Within, plane}
use Rattle.space_laws.specs.Fifth.{five_places, volume_based}
use Rattle.space_laws.specs.Met.{Alike}
use Rattle.space_laws.specs.Passes.{passes}
use Rattle.space_laws.specs.Places.{places_distances, volume_exchanged}
use Rattle.space_laws.specs.Space.{ShadowOf}
use Rattle.space_laws.specs.Volumes.{unit, unit_odd}
use Rattle.chain_laws.specs.Products.{mul-neg, neg-mul}
use Rattle.solid_laws.specs.Bounds.{IsBounded}
use Rattle.solid_laws.specs.Faces.{beyond_sign, edge_is, edge_shadow, face_count, face_shade, of_p, of_q, shade_of, volume_sign}
use Rattle.crossing_laws.specs.EdgePairs.{back_edge_is, back_shadow, edges_count, edges_pair, edges_shade, pair_sign}
use Rattle.crossing_laws.specs.FiveSigns.{five_sign_same, sign_of_back}
use Rattle.crossing_laws.specs.Through.{moved_through}

-- a vertex of P and a face of Q: met or not
vertex_pair : (k l m n v h : ℤ) → (n ≡ pos 0) ⊎ Within k l m n → ShadowOf n v h → Pair (λ s. Alike s k l m) n v h
unfolding Pair
vertex_pair k l m n v h (inl z) s = inl (z, s.none z)
vertex_pair k l m n v h (inr w) s =
    let q = s.some (λ z. omega (arith, ints, z, w.count, unit_odd w.side)) in
    inr (record {
      side = w.side;
      place = record { first = w.first; second = w.second; third = w.third };
      sight = q.sight;
      volume = q.volume;
      count = w.count;
      shadow = q.shadow;
    })

-- the pair of the end of the edge, which counts with the other sign
pair_back : (k l m n v h : ℤ) → Pair (λ s. Alike s k l m) n v h → Pair (λ s. Alike (not s) k l m) (neg_ℤ n) (neg_ℤ v) (neg_ℤ h)
unfolding Pair
pair_back k l m n v h (inl z) = inl (omega (arith, ints, z.0), omega (arith, ints, z.1))
pair_back k l m n v h (inr w) = inr (by w.side w.place w.count) where
  back : (s : Bool) → Signed s v → Signed (not s) (neg_ℤ v)
  back true h = omega (arith, ints, h)
  back false h = omega (arith, ints, h)

  unit_not : (s : Bool) → unit (not s) ≡ neg_ℤ (unit s)
  unit_not true = refl
  unit_not false = refl

  by : (s : Bool) → Alike s k l m → n ≡ unit s → Mark (λ s. Alike (not s) k l m) (neg_ℤ n) (neg_ℤ v) (neg_ℤ h)
  by true a e =
      record {
        side = false;
        place = a;
        sight = not w.sight;
        volume = back w.sight w.volume;
        count = omega (arith, ints, e);
        shadow = omega (arith, ints, w.shadow, unit_not w.sight);
      }
  by false a e =
      record {
        side = true;
        place = a;
        sight = not w.sight;
        volume = back w.sight w.volume;
        count = omega (arith, ints, e);
        shadow = omega (arith, ints, w.shadow, unit_not w.sight);
      }

-- the volumes of an edge with the edges of a face balance the distances in x of an end from its corners
ends_balance : (a b u v t : Vector) → volume a b v t *ℤ (a.x -ℤ u.x) +ℤ volume a b t u *ℤ (a.x -ℤ v.x) +ℤ volume a b u v *ℤ (a.x -ℤ t.x) ≡ volume a u v t *ℤ (a.x -ℤ b.x)
ends_balance a b u v t =
    by (volume a u v t) (volume a b v t) (volume a b t u) (volume a b u v) (volume a b t v) (volume a b u t) (volume a b v u)
    (a.x -ℤ b.x) (a.x -ℤ u.x) (a.x -ℤ v.x) (a.x -ℤ t.x) (places_distances a b u v t) (volume_exchanged a b v t) (volume_exchanged a b t u) (volume_exchanged a b u v) where
      by : (w k l m k' l' m' g x y z : ℤ) → w *ℤ g +ℤ k' *ℤ x +ℤ l' *ℤ y +ℤ m' *ℤ z ≡ pos 0 → k' ≡ neg_ℤ k → l' ≡ neg_ℤ l → m' ≡ neg_ℤ m →
          k *ℤ x +ℤ l *ℤ y +ℤ m *ℤ z ≡ w *ℤ g
      by w k l m k' l' m' g x y z e f i j =
          omega (arith, ints, e, ap (λ (s : ℤ). s *ℤ x) f, ap (λ (s : ℤ). s *ℤ y) i, ap (λ (s : ℤ). s *ℤ z) j, neg-mul k x, neg-mul l y, neg-mul m z)

-- of the other end
end_balance : (a b u v t : Vector) →
    volume a b v t *ℤ (b.x -ℤ u.x) +ℤ volume a b t u *ℤ (b.x -ℤ v.x) +ℤ volume a b u v *ℤ (b.x -ℤ t.x) ≡ neg_ℤ (volume b u v t) *ℤ neg_ℤ (a.x -ℤ b.x)
end_balance a b u v t =
    by (volume b u v t) (volume a b v t) (volume a b t u) (volume a b u v) (volume b a v t) (volume b a t u) (volume b a u v)
    (a.x -ℤ b.x) (b.x -ℤ a.x) (b.x -ℤ u.x) (b.x -ℤ v.x) (b.x -ℤ t.x)
    (ends_balance b a u v t) (volume_based a b v t) (volume_based a b t u) (volume_based a b u v) (omega (arith, ints)) where
      by : (w k l m k' l' m' g h x y z : ℤ) → k' *ℤ x +ℤ l' *ℤ y +ℤ m' *ℤ z ≡ w *ℤ h → k' ≡ neg_ℤ k → l' ≡ neg_ℤ l → m' ≡ neg_ℤ m → h ≡ neg_ℤ g →
          k *ℤ x +ℤ l *ℤ y +ℤ m *ℤ z ≡ neg_ℤ w *ℤ neg_ℤ g
      by w k l m k' l' m' g h x y z e f i j o =
          omega (
            arith,
            ints,
            e,
            ap (λ (s : ℤ). s *ℤ x) f,
            ap (λ (s : ℤ). s *ℤ y) i,
            ap (λ (s : ℤ). s *ℤ z) j,
            neg-mul k x,
            neg-mul l y,
            neg-mul m z,
            ap (λ (s : ℤ). w *ℤ s) o,
            neg-mul w (neg_ℤ g),
            mul-neg w g,
          )

module _ (b : ℤ) (sized : pos 0 ≤ℤ b) (w : Between) where
  -- the plane lemma for a vertex and a face
  vertex_met : (p u v t : Corner) → IsBounded b u → IsBounded b v → IsBounded b t →
      Pair (λ s. Alike s (area (flat (of_q b sized u)) (flat (of_q b sized v)) (flat (of_p b sized p)))
      (area (flat (of_q b sized v)) (flat (of_q b sized t)) (flat (of_p b sized p))) (area (flat (of_q b sized t)) (flat (of_q b sized u)) (flat (of_p b sized p))))
      (face_count p u v t) (volume (of_p b sized p) (of_q b sized u) (of_q b sized v) (of_q b sized t)) (face_shade w p u v t)
  vertex_met p u v t hu hv ht =
      let P = of_p b sized p in
      let U = of_q b sized u in
      let V = of_q b sized v in
      let T = of_q b sized t in
      vertex_pair _ _ _ (face_count p u v t) (volume P U V T) (face_shade w p u v t)
      (plane (exact_beyond p u) (exact_beyond p v) (exact_beyond p t) (P.x -ℤ U.x) (P.x -ℤ V.x) (P.x -ℤ T.x)
      (area (flat U) (flat V) (flat P)) (area (flat V) (flat T) (flat P)) (area (flat T) (flat U) (flat P)) (edge_shadow p u v) (edge_shadow p v t) (edge_shadow p t u)
      (face_balance (flat U) (flat V) (flat T) (flat P)) (beyond_sign b sized p u) (beyond_sign b sized p v) (beyond_sign b sized p t) (edge_is b sized p u v hu hv)
      (edge_is b sized p v t hv ht) (edge_is b sized p t u ht hu)) (shade_of b sized w p u v t hu hv ht)

  module _ (p q u v t : Corner) (hp : IsBounded b p) (hq : IsBounded b q) (hu : IsBounded b u) (hv : IsBounded b v) (ht : IsBounded b t) where
    -- where none of the five pairs is met
    unmet : (s : Bool) → face_count p u v t ≡ pos 0 → neg_ℤ (face_count q u v t) ≡ pos 0 → edges_count p q u v ≡ pos 0 → edges_count p q v t ≡ pos 0 → edges_count p q t u ≡ pos 0 →
        Signed s (volume (of_p b sized p) (of_q b sized u) (of_q b sized v) (of_q b sized t)) →
        Signed s (neg_ℤ (volume (of_p b sized q) (of_q b sized u) (of_q b sized v) (of_q b sized t))) →
        Signed s (volume (of_p b sized p) (of_p b sized q) (of_q b sized u) (of_q b sized v)) →
        Signed s (volume (of_p b sized p) (of_p b sized q) (of_q b sized v) (of_q b sized t)) →
        Signed s (volume (of_p b sized p) (of_p b sized q) (of_q b sized t) (of_q b sized u)) → ⊥
    unmet s na nb n1 n2 n3 =
        let A = of_p b sized p in
        let B = of_p b sized q in
        let U = of_q b sized u in
        let V = of_q b sized v in
        let T = of_q b sized t in
        passes (five_places A B U V T) (A.x -ℤ U.x) (A.x -ℤ V.x) (A.x -ℤ T.x) (B.x -ℤ U.x) (B.x -ℤ V.x) (B.x -ℤ T.x) (A.x -ℤ B.x)
        (edge_shadow p u v) (edge_shadow p v t) (edge_shadow p t u) (edge_shadow q u v) (edge_shadow q v t) (edge_shadow q t u) (back_shadow p q u) (back_shadow p q v)
        (back_shadow p q t) (apart A.x B.x U.x) (apart A.x B.x V.x) (apart A.x B.x T.x) (ends_balance A B U V T) (end_balance A B U V T) s
        (exact_beyond p u) (exact_beyond p v) (exact_beyond p t) (exact_beyond q u) (exact_beyond q v) (exact_beyond q t)
        (beyond_sign b sized p u) (beyond_sign b sized p v) (beyond_sign b sized p t) (beyond_sign b sized q u) (beyond_sign b sized q v) (beyond_sign b sized q t)
        (edge_is b sized p u v hu hv) (edge_is b sized p v t hv ht) (edge_is b sized p t u ht hu) (edge_is b sized q u v hu hv) (edge_is b sized q v t hv ht)
        (edge_is b sized q t u ht hu) (back_edge_is b sized p q u hp hq) (back_edge_is b sized p q v hp hq) (back_edge_is b sized p q t hp hq) na
        (back (face_count q u v t) nb) n1 n2 n3
      where
        apart : (a b u : ℤ) → (a -ℤ u) -ℤ (b -ℤ u) ≡ a -ℤ b
        apart a b u = omega (arith, ints)

        back : (z : ℤ) → neg_ℤ z ≡ pos 0 → z ≡ pos 0
        back z e = omega (arith, ints, e)

    -- the shadows of the pairs
    shadows_add : face_shade w p u v t +ℤ neg_ℤ (face_shade w q u v t) +ℤ edges_shade w p q u v +ℤ edges_shade w p q v t +ℤ edges_shade w p q t u
        ≡ neg_ℤ (moved_through (position p) (position q) (position u) (position v) (position t))
    shadows_add =
        crossed (five_places (of_p b sized p) (of_p b sized q) (of_q b sized u) (of_q b sized v) (of_q b sized t)) (face_count p u v t) (neg_ℤ (face_count q u v t))
        (edges_count p q u v) (edges_count p q v t) (edges_count p q t u) (face_shade w p u v t) (neg_ℤ (face_shade w q u v t)) (edges_shade w p q u v) (edges_shade w p q v t)
        (edges_shade w p q t u) (whole (edge_shadow p u v) (edge_shadow p v t) (edge_shadow p t u) (edge_shadow q u v) (edge_shadow q v t) (edge_shadow q t u) (back_shadow p q u)
        (back_shadow p q v) (back_shadow p q t)) unmet
        (vertex_met p u v t hu hv ht) (pair_back _ _ _ _ _ _ (vertex_met q u v t hu hv ht)) (edges_pair b sized p q u v hp hq hu hv w) (edges_pair b sized p q v t hp hq hv ht w)
        (edges_pair b sized p q t u hp hq ht hu w)
        ∙ ap neg_ℤ (sym (five_sign_same _ _ _ _ _ _ _ _ _ _ (volume_sign b sized p u v t hu hv ht) (sign_of_back _ _ (volume_sign b sized q u v t hu hv ht))
        (pair_sign b sized p q u v hp hq hu hv) (pair_sign b sized p q v t hp hq hv ht) (pair_sign b sized p q t u hp hq ht hu)))
      where
        whole : (a1 a2 a3 b1 b2 b3 u v t : ℤ) →
            (a1 +ℤ a2 +ℤ a3) +ℤ neg_ℤ (b1 +ℤ b2 +ℤ b3) +ℤ (b1 -ℤ a1 -ℤ v +ℤ u) +ℤ (b2 -ℤ a2 -ℤ t +ℤ v) +ℤ (b3 -ℤ a3 -ℤ u +ℤ t) ≡ pos 0
        whole a1 a2 a3 b1 b2 b3 u v t = omega (arith, ints)

    -- the number of crossings
    pub number_is : edge_number (vertex_face exact w) (edge_edge exact w) p q u v t ≡ moved_through (position p) (position q) (position u) (position v) (position t)
    number_is =
        by (face_shade w p u v t) (face_shade w q u v t) (edges_shade w p q u v) (edges_shade w p q v t) (edges_shade w p q t u) _ shadows_add where
          by : (s f x y z n : ℤ) → s +ℤ neg_ℤ f +ℤ x +ℤ y +ℤ z ≡ neg_ℤ n → f -ℤ s -ℤ (x +ℤ (y +ℤ (z +ℤ pos 0))) ≡ n
          by s f x y z n e = omega (arith, ints, e)

    -- and so of the test's answer
    pub crossing_is : (settle : Settle) → number_of (edge_face_crossing exact w settle (p ∷ q ∷ []) (u ∷ v ∷ t ∷ []))
        ≡ moved_through (position p) (position q) (position u) (position v) (position t)
    crossing_is settle = lift (vertex_face exact w) (edge_edge exact w) (p_point w settle) p q u v t ∙ number_is
