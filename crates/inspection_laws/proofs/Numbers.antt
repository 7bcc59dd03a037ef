-- Products of whole numbers that are 0, and signs of them.
use Rattle.std.specs.Prelude.{◌≡◌, ◌≢◌, ℤ, pos, neg_ℤ, ◌+ℤ◌, ◌-ℤ◌, ◌*ℤ◌, ◌≤ℤ◌, ◌<ℤ◌, Bool, true, false, ◌⊎◌}
use Rattle.std.proofs.Common.{arith, refl, ap, inl, inr, ◌∙◌}
use Rattle.std.proofs.lemmas.Int.{ints, by_lt_z}
use Rattle.std.proofs.Math.IntN.{*ℤ_comm}
use Rattle.chain_laws.specs.Products.{add-mul, mul-add, mul-sub, sub-mul, mul-neg, neg-mul, mul-assoc, pos_mul, pos_factor, product}
use Rattle.plane_laws.specs.Areas.{exchanged}
use Rattle.plane_laws.specs.Moved.{nonneg_mul, times_zero, times_one}
use Rattle.plane_laws.specs.Signs.{Signed, signed_mul}

-- 0 times a number
pub zero_times : (z : ℤ) → pos 0 *ℤ z ≡ pos 0
zero_times z = *ℤ_comm (pos 0) z ∙ times_zero z

-- below 0, 0, or above it
pub by_sign : {P : Type 0} (z : ℤ) → (z <ℤ pos 0 → P) → (z ≡ pos 0 → P) → (pos 0 <ℤ z → P) → P
by_sign z f g h = by_lt_z z (pos 0) f (λ k. by_lt_z (pos 0) z h (λ l. g (omega (arith, ints))))

-- a factor that is not 0 of a product that is
pub other_zero : (n b : ℤ) → n ≢ pos 0 → n *ℤ b ≡ pos 0 → b ≡ pos 0
other_zero n b some e = by_sign n
    (λ hn. by_sign b (λ hb. absurd (omega (arith, ints, e, signed_mul false false n b hn hb))) (λ z. z) (λ hb. absurd (omega (arith, ints, e, signed_mul false true n b hn hb))))
    (λ z. absurd (some z))
    (λ hn. by_sign b (λ hb. absurd (omega (arith, ints, e, signed_mul true false n b hn hb))) (λ z. z) (λ hb. absurd (omega (arith, ints, e, signed_mul true true n b hn hb))))

-- a factor that is not 0 can be left out
pub same_factor : (n a b : ℤ) → n ≢ pos 0 → n *ℤ a ≡ n *ℤ b → a ≡ b
same_factor n a b some e = let z = other_zero n (a -ℤ b) some (omega (arith, ints, mul-sub n a b, e)) in omega (arith, ints, z)

-- numbers above 0 are not 0
pub above_some : (n : ℤ) → pos 0 <ℤ n → n ≢ pos 0
above_some n h e = omega (arith, ints, h, e)

-- the numbers of two ways that balance
pub cramer : (b c x y z w : ℤ) → b *ℤ x +ℤ c *ℤ z ≡ pos 0 → b *ℤ y +ℤ c *ℤ w ≡ pos 0 → (x *ℤ w -ℤ y *ℤ z) *ℤ b ≡ pos 0
cramer b c x y z w e f =
    let p : w *ℤ (b *ℤ x) +ℤ w *ℤ (c *ℤ z) ≡ pos 0 = omega (arith, ints, mul-add w (b *ℤ x) (c *ℤ z), ap (λ (t : ℤ). w *ℤ t) e, times_zero w) in
    let q : z *ℤ (b *ℤ y) +ℤ z *ℤ (c *ℤ w) ≡ pos 0 = omega (arith, ints, mul-add z (b *ℤ y) (c *ℤ w), ap (λ (t : ℤ). z *ℤ t) f, times_zero z) in
    let r : (x *ℤ w) *ℤ b ≡ w *ℤ (b *ℤ x) = *ℤ_comm (x *ℤ w) b ∙ ap (λ (t : ℤ). b *ℤ t) (*ℤ_comm x w) ∙ exchanged b w x in
    let s : (y *ℤ z) *ℤ b ≡ z *ℤ (b *ℤ y) = *ℤ_comm (y *ℤ z) b ∙ ap (λ (t : ℤ). b *ℤ t) (*ℤ_comm y z) ∙ exchanged b z y in
    let m : w *ℤ (c *ℤ z) ≡ z *ℤ (c *ℤ w) = exchanged w c z ∙ ap (λ (t : ℤ). c *ℤ t) (*ℤ_comm w z) ∙ exchanged c z w in
    omega (arith, ints, p, q, r, s, m, sub-mul (x *ℤ w) (y *ℤ z) b)
