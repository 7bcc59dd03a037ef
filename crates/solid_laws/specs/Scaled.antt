-- Places with all coordinates times a number above 0: which tetrahedra they are in, and of which they are clear, stays the same.
use Rattle.std.specs.Prelude.{◌≡◌, ℕ, ℤ, pos, ◌+ℤ◌, ◌-ℤ◌, ◌*ℤ◌, ◌<ℤ◌, Bool, true, false, List, get_or}
use Rattle.std.proofs.Common.{arith, refl, sym, ap, ◌∙◌}
use Rattle.std.proofs.lemmas.Int.{ints, by_lt_z}
use Rattle.chain_laws.specs.Products.{mul-add, mul-sub, mul-assoc}
use Rattle.chain_laws.specs.Sums.{total-same}
use Rattle.mesh_terms.specs.Meshes.{Triple}
use Rattle.plane_laws.specs.Areas.{exchanged}
use Rattle.plane_laws.specs.Decisions.{Vector}
use Rattle.plane_laws.specs.Signs.{Signed, Weak}
use Rattle.solid_terms.specs.Solids.{IsClear, IsClearOfAll, inside, solid_winding, volume}
use Rattle.space_laws.specs.Lexical.{OneSign, one_sign_signed}
use Rattle.space_laws.specs.Lexical.OneSign.{both_above, both_below, both_zero}
use Rattle.solid_laws.specs.Sights.{one_sign_same, scaled}

-- a place with all coordinates times c
abbrev pub scaled_place : ℤ → Vector → Vector
scaled_place c p = record { x = c *ℤ p.x; y = c *ℤ p.y; z = c *ℤ p.z }

-- a minor of differences of multiples
minor_scaled : (c ui uj vi vj ti tj : ℤ) → (c *ℤ vi -ℤ c *ℤ ui) *ℤ (c *ℤ tj -ℤ c *ℤ uj) -ℤ (c *ℤ vj -ℤ c *ℤ uj) *ℤ (c *ℤ ti -ℤ c *ℤ ui)
    ≡ c *ℤ (c *ℤ ((vi -ℤ ui) *ℤ (tj -ℤ uj) -ℤ (vj -ℤ uj) *ℤ (ti -ℤ ui)))
minor_scaled c ui uj vi vj ti tj =
    rw (← mul-sub c vi ui, ← mul-sub c tj uj, ← mul-sub c vj uj, ← mul-sub c ti ui, four (vi -ℤ ui) (tj -ℤ uj), four (vj -ℤ uj) (ti -ℤ ui))
    (sym (ap (λ (z : ℤ). c *ℤ z) (mul-sub c ((vi -ℤ ui) *ℤ (tj -ℤ uj)) ((vj -ℤ uj) *ℤ (ti -ℤ ui)))
    ∙ mul-sub c (c *ℤ ((vi -ℤ ui) *ℤ (tj -ℤ uj))) (c *ℤ ((vj -ℤ uj) *ℤ (ti -ℤ ui))))) where
      four : (a b : ℤ) → (c *ℤ a) *ℤ (c *ℤ b) ≡ c *ℤ (c *ℤ (a *ℤ b))
      four a b = mul-assoc c a (c *ℤ b) ∙ ap (λ (z : ℤ). c *ℤ z) (exchanged a c b)

-- the volume is times the cube
pub volume_scaled : (c : ℤ) (p u v t : Vector) → volume (scaled_place c p) (scaled_place c u) (scaled_place c v) (scaled_place c t) ≡ c *ℤ (c *ℤ (c *ℤ volume p u v t))
volume_scaled c p u v t =
    by _ _ _ _ _ _ _ _ _ _ _ _ (minor_scaled c u.y u.z v.y v.z t.y t.z) (minor_scaled c u.z u.x v.z v.x t.z t.x) (minor_scaled c u.x u.y v.x v.y t.x t.y)
    (sym (mul-sub c u.x p.x)) (sym (mul-sub c u.y p.y)) (sym (mul-sub c u.z p.z)) where
      one : (a h : ℤ) → (c *ℤ (c *ℤ a)) *ℤ (c *ℤ h) ≡ c *ℤ (c *ℤ (c *ℤ (a *ℤ h)))
      one a h = mul-assoc c (c *ℤ a) (c *ℤ h) ∙ ap (λ (z : ℤ). c *ℤ z) (mul-assoc c a (c *ℤ h) ∙ ap (λ (z : ℤ). c *ℤ z) (exchanged a c h))

      added : (x y z : ℤ) → c *ℤ x +ℤ c *ℤ y +ℤ c *ℤ z ≡ c *ℤ (x +ℤ y +ℤ z)
      added x y z = omega (arith, ints, mul-add c (x +ℤ y) z, mul-add c x y)

      by : (n1 n2 n3 d1 d2 d3 m1 m2 m3 e1 e2 e3 : ℤ) → n1 ≡ c *ℤ (c *ℤ m1) → n2 ≡ c *ℤ (c *ℤ m2) → n3 ≡ c *ℤ (c *ℤ m3) → d1 ≡ c *ℤ e1 → d2 ≡ c *ℤ e2 → d3 ≡ c *ℤ e3 →
          n1 *ℤ d1 +ℤ n2 *ℤ d2 +ℤ n3 *ℤ d3 ≡ c *ℤ (c *ℤ (c *ℤ (m1 *ℤ e1 +ℤ m2 *ℤ e2 +ℤ m3 *ℤ e3)))
      by n1 n2 n3 d1 d2 d3 m1 m2 m3 e1 e2 e3 f1 f2 f3 g1 g2 g3 =
          rw (f1, f2, f3, g1, g2, g3, one m1 e1, one m2 e2, one m3 e3)
          (added (c *ℤ (c *ℤ (m1 *ℤ e1))) (c *ℤ (c *ℤ (m2 *ℤ e2))) (c *ℤ (c *ℤ (m3 *ℤ e3)))
          ∙ ap (λ (z : ℤ). c *ℤ z) (added (c *ℤ (m1 *ℤ e1)) (c *ℤ (m2 *ℤ e2)) (c *ℤ (m3 *ℤ e3)) ∙ ap (λ (z : ℤ). c *ℤ z) (added (m1 *ℤ e1) (m2 *ℤ e2) (m3 *ℤ e3))))

-- a number has the sign that it has
own_sign : (z : ℤ) → OneSign z z
own_sign z = by_lt_z z (pos 0) (λ l. both_below l l) (λ k. by_lt_z (pos 0) z (λ l. both_above l l) (λ l. both_zero (omega (arith, ints)) (omega (arith, ints))))

-- the other way round
sign_turned : (a b : ℤ) → OneSign a b → OneSign b a
sign_turned a b (both_above h k) = both_above k h
sign_turned a b (both_below h k) = both_below k h
sign_turned a b (both_zero h k) = both_zero k h

-- a weak sign too is that of both
weak_same : (s : Bool) (a b : ℤ) → OneSign a b → Weak s a → Weak s b
weak_same true a b (both_above h k) l = omega (arith, ints, k)
weak_same true a b (both_below h k) l = absurd (omega (arith, ints, h, l))
weak_same true a b (both_zero h k) l = omega (arith, ints, k)
weak_same false a b (both_above h k) l = absurd (omega (arith, ints, h, l))
weak_same false a b (both_below h k) l = omega (arith, ints, k)
weak_same false a b (both_zero h k) l = omega (arith, ints, k)

module _ (c : ℤ) (above : pos 0 <ℤ c) where
  -- so the volume keeps its sign
  pub volume_signed : (p u v t : Vector) → OneSign (volume p u v t) (volume (scaled_place c p) (scaled_place c u) (scaled_place c v) (scaled_place c t))
  volume_signed p u v t =
      let w = volume p u v t in
      scaled c w (c *ℤ (c *ℤ w)) _ above (volume_scaled c p u v t) (scaled c w (c *ℤ w) _ above refl (scaled c w w _ above refl (own_sign w)))

  -- a place is in the same tetrahedra
  pub inside_scaled : (p o u v t : Vector) → inside (scaled_place c p) (scaled_place c o) (scaled_place c u) (scaled_place c v) (scaled_place c t) ≡ inside p o u v t
  inside_scaled p o u v t =
      sym (one_sign_same _ _ _ _ _ _ _ _ (volume_signed p u v t) (volume_signed p o t v) (volume_signed p o u t) (volume_signed p o v u))

  -- and clear of the same
  pub clear_scaled : (p o u v t : Vector) → IsClear p o u v t → IsClear (scaled_place c p) (scaled_place c o) (scaled_place c u) (scaled_place c v) (scaled_place c t)
  clear_scaled p o u v t clear = record {
    strict = λ s h k0 k1 k2 k3.
        let all = clear.strict s (back s o u v t h) (weak s p u v t k0) (weak s p o t v k1) (weak s p o u t k2) (weak s p o v u k3) in
        record {
          first = one_sign_signed s _ _ (volume_signed p u v t) all.first;
          second = one_sign_signed s _ _ (volume_signed p o t v) all.second;
          third = one_sign_signed s _ _ (volume_signed p o u t) all.third;
          fourth = one_sign_signed s _ _ (volume_signed p o v u) all.fourth;
        };
  } where
    back : (s : Bool) (p u v t : Vector) → Signed s (volume (scaled_place c p) (scaled_place c u) (scaled_place c v) (scaled_place c t)) → Signed s (volume p u v t)
    back s p u v t h = one_sign_signed s _ _ (sign_turned _ _ (volume_signed p u v t)) h

    weak : (s : Bool) (p u v t : Vector) → Weak s (volume (scaled_place c p) (scaled_place c u) (scaled_place c v) (scaled_place c t)) → Weak s (volume p u v t)
    weak s p u v t h = weak_same s _ _ (sign_turned _ _ (volume_signed p u v t)) h

  -- so a mesh winds as often round it
  module _ (p o : Vector) (at far : ℕ → Vector) (same : (i : ℕ) → far i ≡ scaled_place c (at i)) where
    pub solid_scaled : (ts : List Triple) → solid_winding (scaled_place c p) (scaled_place c o) far ts ≡ solid_winding p o at ts
    solid_scaled ts =
        total-same (λ t. inside (scaled_place c p) (scaled_place c o) (far t.0) (far t.1) (far t.2)) (λ t. inside p o (at t.0) (at t.1) (at t.2))
        (λ t. rw (same t.0, same t.1, same t.2) (inside_scaled p o (at t.0) (at t.1) (at t.2))) ts

    -- and it is clear of as many
    pub all_clear_scaled : (ts : List Triple) → IsClearOfAll p o at ts → IsClearOfAll (scaled_place c p) (scaled_place c o) far ts
    all_clear_scaled ts clear i d l =
        let t = get_or ts i d in
        rw (same t.0, same t.1, same t.2) (clear_scaled p o (at t.0) (at t.1) (at t.2) (clear i d l))
