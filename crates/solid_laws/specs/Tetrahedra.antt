-- The space lemma for corners: the shadows of a vertex of P on the four faces of a tetrahedron of corners of Q.
use Rattle.std.specs.Prelude.{◌≡◌, ℤ, pos, neg_ℤ, ◌+ℤ◌, ◌-ℤ◌, ◌≤ℤ◌}
use Rattle.std.proofs.Common.{sym, ap, subst, ◌∙◌}
use Rattle.mb_base.specs.declared.point.Corner.{Corner}
use Rattle.shadow_kernels.specs.Spots.{Between}
use Rattle.plane_laws.specs.Heights.{flat}
use Rattle.exact_kernels.specs.Exact.{exact_beyond, position}
use Rattle.solid_terms.specs.Solids.{volume}
use Rattle.space_laws.specs.Places.{places_balanced, places_distances, face_012, face_021}
use Rattle.space_laws.specs.Space.{ShadowOf, space}
use Rattle.solid_laws.specs.Moved.{moved_inside}
use Rattle.solid_laws.specs.Sights.{one_sign_same}
use Rattle.solid_laws.specs.Bounds.{IsBounded}
use Rattle.solid_laws.specs.Faces.{edge_shadow, edge_turned, face_shade, of_p, of_q, beyond_sign, edge_is, volume_sign, shade_of}

module _ (b : ℤ) (sized : pos 0 ≤ℤ b) where
  -- they add up to minus whether the moved vertex is inside
  pub tetrahedron : (w : Between) (p o u v t : Corner) → IsBounded b o → IsBounded b u → IsBounded b v → IsBounded b t →
      face_shade w p u v t +ℤ face_shade w p o t v +ℤ face_shade w p o u t +ℤ face_shade w p o v u
      ≡ neg_ℤ (moved_inside (position p) (position o) (position u) (position v) (position t))
  tetrahedron w p o u v t ho hu hv ht =
      let P = of_p b sized p in
      let O = of_q b sized o in
      let U = of_q b sized u in
      let V = of_q b sized v in
      let T = of_q b sized t in
      space (P.x -ℤ O.x) (P.x -ℤ U.x) (P.x -ℤ V.x) (P.x -ℤ T.x) (edge_shadow p o u) (edge_shadow p o v) (edge_shadow p o t) (edge_shadow p u v) (edge_shadow p u t)
      (edge_shadow p v t)
      (places_balanced P O U V T) (places_distances P O U V T)
      (face_012 (flat P) (flat U) (flat V) (flat T)) (face_021 (flat P) (flat O) (flat V) (flat T)) (face_012 (flat P) (flat O) (flat U) (flat T))
      (face_021 (flat P) (flat O) (flat U) (flat V))
      (exact_beyond p o) (exact_beyond p u) (exact_beyond p v) (exact_beyond p t)
      (beyond_sign b sized p o) (beyond_sign b sized p u) (beyond_sign b sized p v) (beyond_sign b sized p t)
      (edge_is b sized p o u ho hu) (edge_is b sized p o v ho hv) (edge_is b sized p o t ho ht) (edge_is b sized p u v hu hv) (edge_is b sized p u t hu ht)
      (edge_is b sized p v t hv ht)
      (face_shade w p u v t) (face_shade w p o t v) (face_shade w p o u t) (face_shade w p o v u)
      (subst (λ (n : ℤ). ShadowOf n (volume P U V T) (face_shade w p u v t))
      (one (edge_shadow p u v) (edge_shadow p v t) (edge_shadow p t u) (edge_shadow p u t) (edge_turned p u t)) (shade_of b sized w p u v t hu hv ht))
      (subst (λ (n : ℤ). ShadowOf n (volume P O T V) (face_shade w p o t v))
      (two (edge_shadow p o t) (edge_shadow p t v) (edge_shadow p v o) (edge_shadow p v t) (edge_shadow p o v) (edge_turned p v t) (edge_turned p o v))
      (shade_of b sized w p o t v ho ht hv))
      (subst (λ (n : ℤ). ShadowOf n (volume P O U T) (face_shade w p o u t))
      (one (edge_shadow p o u) (edge_shadow p u t) (edge_shadow p t o) (edge_shadow p o t) (edge_turned p o t)) (shade_of b sized w p o u t ho hu ht))
      (subst (λ (n : ℤ). ShadowOf n (volume P O V U) (face_shade w p o v u))
      (two (edge_shadow p o v) (edge_shadow p v u) (edge_shadow p u o) (edge_shadow p u v) (edge_shadow p o u) (edge_turned p u v) (edge_turned p o u))
      (shade_of b sized w p o v u ho hv hu))
      ∙ ap neg_ℤ (sym (one_sign_same _ _ _ _ _ _ _ _ (volume_sign b sized p u v t hu hv ht) (volume_sign b sized p o t v ho ht hv) (volume_sign b sized p o u t ho hu ht)
      (volume_sign b sized p o v u ho hv hu)))
    where
      one : (x y z z' : ℤ) → z ≡ neg_ℤ z' → x +ℤ y +ℤ z ≡ x +ℤ y +ℤ neg_ℤ z'
      one x y z z' e = ap (λ (s : ℤ). x +ℤ y +ℤ s) e

      two : (x y z y' z' : ℤ) → y ≡ neg_ℤ y' → z ≡ neg_ℤ z' → x +ℤ y +ℤ z ≡ x +ℤ neg_ℤ y' +ℤ neg_ℤ z'
      two x y z y' z' e f = ap (λ (s : ℤ). x +ℤ s +ℤ z) e ∙ ap (λ (s : ℤ). x +ℤ neg_ℤ y' +ℤ s) f
