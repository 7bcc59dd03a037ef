-- The common sign of five numbers, of others with the same signs, and of the numbers turned.
use Rattle.std.specs.Prelude.{◌≡◌, ℤ, pos, negsuc, neg_ℤ, ◌<ℤ◌, Bool, true, false, ◌&&◌, int_lt, if◌then◌else◌}
use Rattle.std.proofs.Common.{arith, refl}
use Rattle.std.proofs.lemmas.Int.{ints}
use Rattle.space_laws.specs.Crossed.{five_sign}
use Rattle.space_laws.specs.Lexical.{OneSign}
use Rattle.space_laws.specs.Lexical.OneSign.{both_above, both_below, both_zero}
use Rattle.solid_laws.specs.Sights.{same_tests}

-- five numbers by five of the same signs
pub five_sign_same : (a0 a1 a2 a3 a4 b0 b1 b2 b3 b4 : ℤ) → OneSign a0 b0 → OneSign a1 b1 → OneSign a2 b2 → OneSign a3 b3 → OneSign a4 b4 →
    five_sign a0 a1 a2 a3 a4 ≡ five_sign b0 b1 b2 b3 b4
five_sign_same a0 a1 a2 a3 a4 b0 b1 b2 b3 b4 h0 h1 h2 h3 h4 =
    let t0 = same_tests a0 b0 h0 in
    let t1 = same_tests a1 b1 h1 in
    let t2 = same_tests a2 b2 h2 in
    let t3 = same_tests a3 b3 h3 in
    let t4 = same_tests a4 b4 h4 in
    rw (t0.above, t1.above, t2.above, t3.above, t4.above, t0.below, t1.below, t2.below, t3.below, t4.below) refl

-- numbers turned have one sign where the numbers have
pub sign_of_back : (a b : ℤ) → OneSign a b → OneSign (neg_ℤ a) (neg_ℤ b)
sign_of_back a b (both_above h k) = both_below (omega (arith, ints, h)) (omega (arith, ints, k))
sign_of_back a b (both_below h k) = both_above (omega (arith, ints, h)) (omega (arith, ints, k))
sign_of_back a b (both_zero h k) = both_zero (omega (arith, ints, h)) (omega (arith, ints, k))

-- a test turned
above_back : (z z' : ℤ) → z' ≡ neg_ℤ z → int_lt (pos 0) z' ≡ int_lt z (pos 0)
above_back z z' e = rw e (grind (arith, ints))

-- the other
below_back : (z z' : ℤ) → z' ≡ neg_ℤ z → int_lt z' (pos 0) ≡ int_lt (pos 0) z
below_back z z' e = rw e (grind (arith, ints))

-- five numbers turned
pub five_sign_turned : (v0 v1 v2 v3 v4 w0 w1 w2 w3 w4 : ℤ) → w0 ≡ neg_ℤ v0 → w1 ≡ neg_ℤ v1 → w2 ≡ neg_ℤ v2 → w3 ≡ neg_ℤ v3 → w4 ≡ neg_ℤ v4 →
    five_sign w0 w1 w2 w3 w4 ≡ neg_ℤ (five_sign v0 v1 v2 v3 v4)
five_sign_turned v0 v1 v2 v3 v4 w0 w1 w2 w3 w4 e0 e1 e2 e3 e4 =
    rw (
      above_back v0 w0 e0,
      above_back v1 w1 e1,
      above_back v2 w2 e2,
      above_back v3 w3 e3,
      above_back v4 w4 e4,
      below_back v0 w0 e0,
      below_back v1 w1 e1,
      below_back v2 w2 e2,
      below_back v3 w3 e3,
      below_back v4 w4 e4,
    )
    (by (int_lt (pos 0) v0 && int_lt (pos 0) v1 && int_lt (pos 0) v2 && int_lt (pos 0) v3 && int_lt (pos 0) v4)
    (int_lt v0 (pos 0) && int_lt v1 (pos 0) && int_lt v2 (pos 0) && int_lt v3 (pos 0) && int_lt v4 (pos 0)) (λ e f. omega (arith, ints, above e, below f)))
  where
    above : (int_lt (pos 0) v0 && int_lt (pos 0) v1 && int_lt (pos 0) v2 && int_lt (pos 0) v3 && int_lt (pos 0) v4) ≡ true → pos 0 <ℤ v0
    above e = grind (arith, ints)

    below : (int_lt v0 (pos 0) && int_lt v1 (pos 0) && int_lt v2 (pos 0) && int_lt v3 (pos 0) && int_lt v4 (pos 0)) ≡ true → v0 <ℤ pos 0
    below e = grind (arith, ints)

    by : (s t : Bool) → (s ≡ true → t ≡ true → ⊥) → (if t then pos 1 else (if s then negsuc 0 else pos 0)) ≡ neg_ℤ (if s then pos 1 else (if t then negsuc 0 else pos 0))
    by true true f = absurd (f refl refl)
    by true false f = refl
    by false true f = refl
    by false false f = refl
