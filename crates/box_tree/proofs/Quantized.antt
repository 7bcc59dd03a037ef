-- Coordinates in coarse steps, rounded down and up.
use Rattle.std.proofs.Common.{◌≡◌, ◌∙◌, ℕ, zero, suc, ℤ, pos, negsuc, neg_ℤ, ◌+◌, ◌-◌, ◌*◌, ◌/◌, ◌%◌, ◌^◌, ◌<◌, false, refl, sym, ap, arith}
use Rattle.std.specs.Prelude.{◌≤ℤ◌, ◌<ℤ◌, unsigned_abs}
use Rattle.std.specs.Int.{int_shr}
use Rattle.std.specs.Int.Signed.{le_z}
use Rattle.std.proofs.Math.Pow.{pow_pos, shr_mono, shl-shr}
use Rattle.std.proofs.lemmas.Int.{ints, clamps, by_lt_z}
use Rattle.std.proofs.lemmas.Nat.{div_below, le-div, shr_high, shr_split}
use Rattle.box_tree.specs.Coarse.{IsWhole, cut, fine, step_above, step_below}
use Rattle.box_tree.proofs.Points.{test_from_le}

-- a shift keeps the order
shr_keeps : (a b : ℤ) (k : ℕ) → a ≤ℤ b → int_shr a k ≤ℤ int_shr b k
shr_keeps (pos a) (pos b) k h = omega (arith, ints, shr_mono {a = a} {b = b} k (omega (arith, ints, h)))
shr_keeps (pos a) (negsuc b) k h = absurd (omega (arith, ints, h))
shr_keeps (negsuc a) (pos b) k h = omega (arith, ints)
shr_keeps (negsuc a) (negsuc b) k h = omega (arith, ints, shr_mono {a = b} {b = a} k (omega (arith, ints, h)))

-- coarse steps keep the order
pub below_keeps : (shift : ℕ) (a b : ℤ) → a ≤ℤ b → step_below shift a ≤ℤ step_below shift b
below_keeps shift a b h = omega (arith, ints, clamps, shr_keeps a b shift h)

pub above_keeps : (shift : ℕ) (a b : ℤ) → a ≤ℤ b → step_above shift a ≤ℤ step_above shift b
above_keeps shift a b h = omega (arith, ints, clamps, shr_keeps (neg_ℤ b) (neg_ℤ a) shift (omega (arith, ints, h)))

-- steps from 0 down, as a number below 0
fine_negative : (shift a : ℕ) → fine shift (negsuc a) ≡ negsuc (a * 2 ^ shift + (2 ^ shift - 1))
fine_negative shift a =
    let whole : suc a * 2 ^ shift ≡ suc (a * 2 ^ shift + (2 ^ shift - 1)) = omega (arith, pow_pos shift) in
    ap (λ n. neg_ℤ (pos n)) whole

-- a whole number of steps, shifted down, is that number
pub fine_shifted : (shift : ℕ) (m : ℤ) → int_shr (fine shift m) shift ≡ m
fine_shifted shift (pos a) = ap pos (shl-shr a shift)
fine_shifted shift (negsuc a) =
    ap (λ z. int_shr z shift) (fine_negative shift a) ∙ ap negsuc (shr_high a shift (2 ^ shift - 1) (omega (arith, pow_pos shift)))

-- steps to the other side
pub fine_turned : (shift : ℕ) (m : ℤ) → fine shift (neg_ℤ m) ≡ neg_ℤ (fine shift m)
fine_turned shift (pos zero) = omega (arith, ints)
fine_turned shift (pos (suc a)) = refl
fine_turned shift (negsuc a) = omega (arith, ints)

-- what lies before a whole number of steps is shifted down to less
shifted_before : (shift : ℕ) (z m : ℤ) → z <ℤ fine shift m → int_shr z shift <ℤ m
shifted_before shift (pos n) (pos a) h = omega (arith, ints, div_below n (2 ^ shift) a (pow_pos shift) (omega (arith, ints, h)))
shifted_before shift (pos n) (negsuc a) h = absurd (omega (arith, ints, h, fine_negative shift a))
shifted_before shift (negsuc n) (pos a) h = omega (arith, ints)
shifted_before shift (negsuc n) (negsuc a) h =
    omega (arith, ints, le-div (suc a) n (2 ^ shift) (pow_pos shift) (omega (arith, ints, h, fine_negative shift a, pow_pos shift)))

-- what does not is shifted down to no less
shifted_after : (shift : ℕ) (z m : ℤ) → fine shift m ≤ℤ z → m ≤ℤ int_shr z shift
shifted_after shift z m h = omega (arith, ints, shr_keeps (fine shift m) z shift h, fine_shifted shift m)

-- the test of an order that does not hold
test_not_le : (a b : ℤ) → b <ℤ a → le_z a b ≡ false
test_not_le a b h = grind (arith, ints, h)

-- a whole coordinate is no greater than another where its steps are no more than those of the other, rounded down
pub below_tells : (shift : ℕ) (z to : ℤ) (whole : IsWhole shift z) → le_z whole.steps (step_below shift to) ≡ le_z z to
below_tells shift z to whole =
    let m = whole.steps in
    by_lt_z {P = le_z m (step_below shift to) ≡ le_z z to} to z
    (λ less.
    let low = shifted_before shift to m (omega (arith, ints, less, whole.exact)) in
    test_not_le m (step_below shift to) (omega (arith, ints, clamps, low, whole.few)) ∙ sym (test_not_le z to less))
    (λ more.
    let high = shifted_after shift to m (omega (arith, ints, more, whole.exact)) in
    test_from_le m (step_below shift to) (omega (arith, ints, clamps, high, whole.few)) ∙ sym (test_from_le z to more))

-- and no less than another where its steps are no fewer than those of the other, rounded up
pub above_tells : (shift : ℕ) (z from : ℤ) (whole : IsWhole shift z) → le_z (step_above shift from) whole.steps ≡ le_z from z
above_tells shift z from whole =
    let m = whole.steps in
    let turned = fine_turned shift m in
    by_lt_z {P = le_z (step_above shift from) m ≡ le_z from z} z from
    (λ more.
    let low = shifted_before shift (neg_ℤ from) (neg_ℤ m) (omega (arith, ints, more, whole.exact, turned)) in
    test_not_le (step_above shift from) m (omega (arith, ints, clamps, low, whole.few)) ∙ sym (test_not_le from z more))
    (λ less.
    let high = shifted_after shift (neg_ℤ from) (neg_ℤ m) (omega (arith, ints, less, whole.exact, turned)) in
    test_from_le (step_above shift from) m (omega (arith, ints, clamps, high, whole.few)) ∙ sym (test_from_le from z less))

-- a whole coordinate is not rounded
pub below_whole : (shift : ℕ) (z : ℤ) (whole : IsWhole shift z) → step_below shift z ≡ whole.steps
below_whole shift z whole =
    let shifted = ap (λ x. int_shr x shift) whole.exact ∙ fine_shifted shift whole.steps in
    ap cut shifted ∙ omega (arith, ints, clamps, whole.few)

pub above_whole : (shift : ℕ) (z : ℤ) (whole : IsWhole shift z) → step_above shift z ≡ whole.steps
above_whole shift z whole =
    let turned = ap neg_ℤ whole.exact ∙ sym (fine_turned shift whole.steps) in
    let shifted = ap (λ x. int_shr x shift) turned ∙ fine_shifted shift (neg_ℤ whole.steps) in
    ap (λ x. cut (neg_ℤ x)) shifted ∙ omega (arith, ints, clamps, whole.few)

-- a number and its opposite are as far from 0
turned_abs : (n : ℕ) → unsigned_abs (neg_ℤ (pos n)) ≡ n
turned_abs zero = refl
turned_abs (suc n) = refl

-- a coordinate that a step divides is whole
pub whole_from : (shift : ℕ) (z : ℤ) → unsigned_abs z % 2 ^ shift ≡ 0 → unsigned_abs z / 2 ^ shift < 2 ^ 31 - 1 → IsWhole shift z
whole_from shift (pos n) divides few = record { steps = pos (n / 2 ^ shift); exact = omega (arith, ints, shr_split n shift, divides); few = few }
whole_from shift (negsuc n) divides few =
    let many = suc n / 2 ^ shift in
    let all : many * 2 ^ shift ≡ suc n = omega (arith, shr_split (suc n) shift, divides) in
    record {
      steps = neg_ℤ (pos many);
      exact = sym (fine_turned shift (pos many) ∙ ap (λ k. neg_ℤ (pos k)) all);
      few = omega (arith, turned_abs many, few);
    }
