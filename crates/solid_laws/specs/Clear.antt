-- A place that is not on the surface of a tetrahedron is inside where it is when moved by a hair.
use Rattle.std.specs.Prelude.{◌≡◌, ℤ, pos, ◌+ℤ◌, ◌*ℤ◌, ◌≤ℤ◌, Bool, true, false}
use Rattle.std.proofs.Common.{arith, sym, ap, ◌∙◌}
use Rattle.std.proofs.lemmas.Int.{ints, by_lt_z}
use Rattle.mb_base.specs.declared.point.Corner.{Corner}
use Rattle.plane_laws.specs.Signs.{Signed, Weak}
use Rattle.plane_laws.specs.Moved.{times_zero}
use Rattle.plane_laws.specs.Decisions.{face_normal}
use Rattle.plane_laws.specs.Above.{opposite}
use Rattle.exact_kernels.specs.Exact.{position}
use Rattle.solid_terms.specs.Solids.{HaveSign, IsClear, inside, one_sign, volume}
use Rattle.space_laws.specs.Hair.{cube, volume_kept}
use Rattle.space_laws.specs.Lexical.{lead_signed, one_sign_signed}
use Rattle.space_laws.specs.Places.{volumes_whole}
use Rattle.space_laws.specs.Volumes.{one_sign_all, one_sign_not, by_one_sign}
use Rattle.solid_laws.specs.Moved.{moved_volume, moved_inside}
use Rattle.solid_laws.specs.Bounds.{IsBounded, wide}
use Rattle.solid_laws.specs.Faces.{of_p, of_q, volume_sign}

-- what is not of the other sign
weak_from : (s : Bool) (v w : ℤ) → ((r : Bool) → Signed r v → Signed r w) → Signed s w → Weak s v
weak_from true v w f h = by_lt_z v (pos 0) (λ l. let k = f false l in absurd (omega (arith, ints, h, k))) (λ l. l)
weak_from false v w f h = by_lt_z (pos 0) v (λ l. let k = f true l in absurd (omega (arith, ints, h, k))) (λ l. l)

-- volumes v, and volumes w of the moved place, which have the sign of those that are not 0
same_inside : (v0 v1 v2 v3 w0 w1 w2 w3 whole : ℤ) → v0 +ℤ v1 +ℤ v2 +ℤ v3 ≡ whole → ((r : Bool) → Signed r v0 → Signed r w0) → ((r : Bool) → Signed r v1 → Signed r w1) →
    ((r : Bool) → Signed r v2 → Signed r w2) → ((r : Bool) → Signed r v3 → Signed r w3) →
    (whole ≡ pos 0 → (s : Bool) → Signed s w0 → Signed s w1 → Signed s w2 → Signed s w3 → ⊥) →
    ((s : Bool) → Signed s whole → Weak s v0 → Weak s v1 → Weak s v2 → Weak s v3 → HaveSign s v0 v1 v2 v3) → one_sign w0 w1 w2 w3 ≡ one_sign v0 v1 v2 v3
same_inside v0 v1 v2 v3 w0 w1 w2 w3 whole e f0 f1 f2 f3 flat clear = by_one_sign w0 w1 w2 w3
    (λ s h0 h1 h2 h3.
    let k = all s (weak_from s v0 w0 f0 h0) (weak_from s v1 w1 f1 h1) (weak_from s v2 w2 f2 h2) (weak_from s v3 w3 f3 h3) (λ z. flat z s h0 h1 h2 h3) in
    one_sign_all s w0 w1 w2 w3 h0 h1 h2 h3 ∙ sym (one_sign_all s v0 v1 v2 v3 k.first k.second k.third k.fourth))
    (λ n. one_sign_not w0 w1 w2 w3 n ∙ sym (one_sign_not v0 v1 v2 v3 (λ s h0 h1 h2 h3. n s (f0 s h0) (f1 s h1) (f2 s h2) (f3 s h3))))
  where
    all : (s : Bool) → Weak s v0 → Weak s v1 → Weak s v2 → Weak s v3 → (whole ≡ pos 0 → ⊥) → HaveSign s v0 v1 v2 v3
    all true k0 k1 k2 k3 z =
        by_lt_z (pos 0) whole (λ l. clear true l k0 k1 k2 k3) (λ l. absurd (z (omega (arith, ints, e, l, k0, k1, k2, k3))))
    all false k0 k1 k2 k3 z =
        by_lt_z whole (pos 0) (λ l. clear false l k0 k1 k2 k3) (λ l. absurd (z (omega (arith, ints, e, l, k0, k1, k2, k3))))

-- four numbers of one sign don't add up to nothing
no_sum : (s : Bool) (a b c d : ℤ) → a +ℤ b +ℤ c +ℤ d ≡ pos 0 → Signed s a → Signed s b → Signed s c → Signed s d → ⊥
no_sum true a b c d e h i j k = omega (arith, ints, e, h, i, j, k)
no_sum false a b c d e h i j k = omega (arith, ints, e, h, i, j, k)

module _ (b : ℤ) (sized : pos 0 ≤ℤ b) (p o u v t : Corner) (ho : IsBounded b o) (hu : IsBounded b u) (hv : IsBounded b v) (ht : IsBounded b t) where
  -- a flat tetrahedron has nothing inside
  flat_empty : volume (position o) (position u) (position v) (position t) ≡ pos 0 → (s : Bool) → Signed s (moved_volume (position p) (position u) (position v) (position t)) →
      Signed s (moved_volume (position p) (position o) (position t) (position v)) → Signed s (moved_volume (position p) (position o) (position u) (position t)) →
      Signed s (moved_volume (position p) (position o) (position v) (position u)) → ⊥
  unfolding of_q
  flat_empty z s h0 h1 h2 h3 =
      let m = wide b in
      no_sum s _ _ _ _
      (volumes_whole (of_p b sized p) (of_q b sized o) (of_q b sized u) (of_q b sized v) (of_q b sized t) ∙ volume_kept m (position o) (position u) (position v) (position t)
      ∙ gone (m *ℤ m) (cube m) _ z)
      (one_sign_signed s _ _ (volume_sign b sized p u v t hu hv ht) h0) (one_sign_signed s _ _ (volume_sign b sized p o t v ho ht hv) h1)
      (one_sign_signed s _ _ (volume_sign b sized p o u t ho hu ht) h2) (one_sign_signed s _ _ (volume_sign b sized p o v u ho hv hu) h3)
    where
      gone : (n k z : ℤ) → z ≡ pos 0 → n *ℤ (n *ℤ (k *ℤ z)) ≡ pos 0
      gone n k z e = ap (λ (y : ℤ). n *ℤ (n *ℤ (k *ℤ y))) e ∙ ap (λ (y : ℤ). n *ℤ (n *ℤ y)) (times_zero k) ∙ ap (λ (y : ℤ). n *ℤ y) (times_zero n) ∙ times_zero n

  -- so a place that is off the surface is inside where the moved place is
  pub clear_inside : IsClear (position p) (position o) (position u) (position v) (position t) →
      moved_inside (position p) (position o) (position u) (position v) (position t) ≡ inside (position p) (position o) (position u) (position v) (position t)
  clear_inside c =
      let P = position p in
      let O = position o in
      let U = position u in
      let V = position v in
      let T = position t in
      same_inside (volume P U V T) (volume P O T V) (volume P O U T) (volume P O V U) _ _ _ _ (volume O U V T) (volumes_whole P O U V T)
      (λ r h. lead_signed r (opposite (face_normal U V T)) _ h) (λ r h. lead_signed r (opposite (face_normal O T V)) _ h) (λ r h. lead_signed r (opposite (face_normal O U T)) _ h)
      (λ r h. lead_signed r (opposite (face_normal O V U)) _ h) flat_empty c.strict
