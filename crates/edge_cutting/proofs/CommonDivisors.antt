-- Common divisors: of multiples, of three numbers, of differences.
use Rattle.std.specs.Prelude.{◌≡◌, ℕ, zero, suc, ◌+◌, ◌-◌, ◌*◌, ◌/◌, ◌%◌, ◌≤◌, ◌⊎◌, ℤ, pos, negsuc, neg_ℤ, ◌-ℤ◌, ◌*ℤ◌, int_div, int_rem, unsigned_abs}
use Rattle.std.specs.Int.{◌∣◌, IsGcd}
use Rattle.std.proofs.Common.{arith, refl, sym, ap, subst, ◌∙◌, inl, inr}
use Rattle.std.proofs.Math.Nat.{dvd-add, dvd-add_iff_right, dvd-mod_iff, dvd-mul_right_of_dvd, dvd-sub, mod-eq-zero_of_dvd, mul-add, mul_assoc, one-dvd}
use Rattle.std.proofs.Math.IntN.{*ℤ_comm}
use Rattle.std.proofs.lemmas.Bool.{cases_lt}
use Rattle.std.proofs.lemmas.Int.{ints, quot-rem}
use Rattle.std.proofs.lemmas.Nat.Gcd.{IsGcd-from_mod, IsGcd-from_zero, dvd_antisymm, dvd_refl, dvd_trans, dvd-zero}
use Rattle.edge_cutting.specs.Divisors.{IsCommonDivisor}

-- the greatest common divisor of the greatest common divisor of two numbers and a third one is that of all three
pub of_three : (x y z g h : ℕ) → IsGcd x y g → IsGcd z g h → IsCommonDivisor x y z h
of_three x y z g h two all = record {
  first = dvd_trans h all.1 two.0;
  second = dvd_trans h all.1 two.1;
  third = all.0;
  most = λ d a b c. all.2 d c (two.2 d a b);
}

-- numbers have one
pub euclid : (n a b : ℕ) → b ≤ n → (g : ℕ) × IsGcd a b g
euclid n a zero low = (a, IsGcd-from_zero a 0 refl)
euclid zero a (suc b) low = absurd (omega (arith, low))
euclid (suc n) a (suc b) low = let rest = euclid n (suc b) (a % suc b) (omega arith) in (rest.0, IsGcd-from_mod a (suc b) rest.0 rest.1)

-- one step by a remainder, the other way
next_gcd : (a b g : ℕ) → IsGcd a b g → IsGcd b (a % b) g
next_gcd a b g h = (h.1, (dvd-mod_iff g h.1).1 h.0, λ d p q. h.2 d ((dvd-mod_iff d p).0 q) p)

-- a number times a quotient and a remainder
split_times : (c a b : ℕ) → c * b * (a / b) + c * (a % b) ≡ c * a
split_times c a b =
    let whole : b * (a / b) + a % b ≡ a = omega arith in
    ap (λ t. t + c * (a % b)) (mul_assoc c b (a / b)) ∙ sym (mul-add c (b * (a / b)) (a % b)) ∙ ap (λ t. c * t) whole

-- what divides two multiples divides that of their greatest common divisor
pub times_gcd : (n c a b g : ℕ) → b ≤ n → IsGcd a b g → (d : ℕ) → d ∣ c * a → d ∣ c * b → d ∣ c * g
times_gcd n c a zero g low h d p q = let same : a ≡ g = dvd_antisymm (h.2 a (dvd_refl a) (dvd-zero a)) h.0 in subst (λ t. d ∣ c * t) same p
times_gcd zero c a (suc b) g low h d p q = absurd (omega (arith, low))
times_gcd (suc n) c a (suc b) g low h d p q =
    let whole : d ∣ c * suc b * (a / suc b) + c * (a % suc b) = subst (λ t. d ∣ t) (sym (split_times c a (suc b))) p in
    let rest = (dvd-add_iff_right d (dvd-mul_right_of_dvd d q (a / suc b))).1 whole in
    times_gcd n c (suc b) (a % suc b) g (omega arith) (next_gcd a (suc b) g h) d q rest

-- where three numbers have no common divisor but 1, what divides their multiples by a number divides that number
pub times_none : (c x y z : ℕ) → IsCommonDivisor x y z 1 → (d : ℕ) → d ∣ c * x → d ∣ c * y → d ∣ c * z → d ∣ c
times_none c x y z one d p q r =
    let two = euclid y x y (omega arith) in
    let both = times_gcd y c x y two.0 (omega arith) two.1 d p q in
    let all : IsGcd z two.0 1 = (one-dvd z, one-dvd two.0, λ e a b. one.most e (dvd_trans e b two.1.0) (dvd_trans e b two.1.1) a) in
    let last : d ∣ c * 1 = times_gcd two.0 c z two.0 1 (omega arith) all d r both in
    subst (λ t. d ∣ t) (omega arith) last

-- the size of a difference
size_cases : (x y : ℤ) →
    (unsigned_abs (x -ℤ y) ≡ unsigned_abs x + unsigned_abs y) ⊎
    ((unsigned_abs (x -ℤ y) ≡ unsigned_abs x - unsigned_abs y) ⊎ (unsigned_abs (x -ℤ y) ≡ unsigned_abs y - unsigned_abs x))
size_cases (pos m) (pos n) =
    elim (cases_lt m n) as (λ _. (unsigned_abs (pos m -ℤ pos n) ≡ m + n) ⊎ ((unsigned_abs (pos m -ℤ pos n) ≡ m - n) ⊎ (unsigned_abs (pos m -ℤ pos n) ≡ n - m))) [
      | inl l ↦ inr (inr (omega (arith, ints, l)))
      | inr l ↦ inr (inl (omega (arith, ints, l)))
    ]
size_cases (pos m) (negsuc n) = inl (omega (arith, ints))
size_cases (negsuc m) (pos n) = inl (omega (arith, ints))
size_cases (negsuc m) (negsuc n) = elim (cases_lt m n) as (λ _. (unsigned_abs (negsuc m -ℤ negsuc n) ≡ suc m + suc n) ⊎
    ((unsigned_abs (negsuc m -ℤ negsuc n) ≡ suc m - suc n) ⊎ (unsigned_abs (negsuc m -ℤ negsuc n) ≡ suc n - suc m))) [
      | inl l ↦ inr (inr (omega (arith, ints, l)))
      | inr l ↦ inr (inl (omega (arith, ints, l)))
    ]

-- what divides two sizes divides that of their difference
pub divides_difference : (d : ℕ) (x y : ℤ) → d ∣ unsigned_abs x → d ∣ unsigned_abs y → d ∣ unsigned_abs (x -ℤ y)
divides_difference d x y p q = elim (size_cases x y) as (λ _. d ∣ unsigned_abs (x -ℤ y)) [
  | inl e ↦ subst (λ t. d ∣ t) (sym e) (dvd-add d p q)
  | inr (inl e) ↦ subst (λ t. d ∣ t) (sym e) (dvd-sub d p q)
  | inr (inr e) ↦ subst (λ t. d ∣ t) (sym e) (dvd-sub d q p)
]

-- a quotient without a remainder
pub whole_quotient : (z : ℤ) (d : ℕ) → d ∣ unsigned_abs z → pos d *ℤ int_div z (pos d) ≡ z
whole_quotient z d h = omega (arith, ints, quot-rem z (pos d), rest z h, *ℤ_comm (pos d) (int_div z (pos d)))
  where
    rest : (z : ℤ) → d ∣ unsigned_abs z → int_rem z (pos d) ≡ pos 0
    rest (pos n) h = ap pos (mod-eq-zero_of_dvd d h)
    rest (negsuc n) h = ap (λ m. neg_ℤ (pos m)) (mod-eq-zero_of_dvd d h)
