-- Numbers from -1 to 1: whether they are above or below 0, and counts of such tests.
use Rattle.std.proofs.Common.{◌≡◌, ℕ, zero, suc, ◌+◌, ◌<◌, ◌≤◌, inl, inr, Bool, false, cond, ◌==◌, ℤ, pos, negsuc, neg_ℤ, ◌-ℤ◌, List, [], ◌∷◌, ◌++◌, map, int_lt, count_by, refl, arith, ap, sym, ◌∙◌}
use Rattle.std.proofs.lemmas.Int.{ints}
use Rattle.std.proofs.lemmas.Bool.{cases_eq, eq-eqb, ne_eqb, lt-ltb, le-ltb}
use Rattle.chain_terms.specs.Chains.{one_if}
use Rattle.chain_terms.specs.Sums.{upto}
use Rattle.chain_laws.specs.Counts.{count_by-cons, count_by-map, total-count_by}
use Rattle.chain_laws.specs.Sums.{IsWithin}
use Rattle.chain_laws.proofs.Places.{where_same, where_same-at, where_same-apart, one_hit, total-upto_same}

-- 1 where the number is above 0, and where it is below
abbrev pub above : ℤ → ℕ
above z = one_if (int_lt (pos 0) z)

abbrev pub below : ℤ → ℕ
below z = one_if (int_lt z (pos 0))

-- a number from -1 to 1 is the one less the other, and not both
pub record Parts (z : ℤ) : Type 0 where
  pub value : z ≡ pos (above z) -ℤ pos (below z)
  pub one : above z + below z ≤ 1

pub unit_parts : (z : ℤ) → IsWithin z 1 → Parts z
unit_parts (pos zero) h = record { value = refl; one = omega arith }
unit_parts (pos (suc zero)) h = record { value = refl; one = omega arith }
unit_parts (pos (suc (suc n))) h = absurd (omega (arith, ints, h.high))
unit_parts (negsuc zero) h = record { value = refl; one = omega arith }
unit_parts (negsuc (suc n)) h = absurd (omega (arith, ints, h.low))

-- a minus exchanges the two
pub above_neg : (z : ℤ) → int_lt (pos 0) (neg_ℤ z) ≡ int_lt z (pos 0)
above_neg (pos zero) = refl
above_neg (pos (suc n)) = sym (le-ltb (suc n) 0 (omega arith))
above_neg (negsuc n) = lt-ltb 0 (suc n) (omega arith)

pub below_neg : (z : ℤ) → int_lt (neg_ℤ z) (pos 0) ≡ int_lt (pos 0) z
below_neg (pos zero) = refl
below_neg (pos (suc n)) = sym (lt-ltb 0 (suc n) (omega arith))
below_neg (negsuc n) = le-ltb (suc n) 0 (omega arith)

-- the count of a test over three and over a mapped list
pub count_lists : {X : Type 0} (test : X → Bool) (half pair : ℕ → X) (n : ℕ) →
    count_by test (map half (upto 3) ++ map pair (upto n)) ≡ one_if (test (half 0)) + (one_if (test (half 1)) + (one_if (test (half 2)) + count_by (λ k. test (pair k)) (upto n)))
count_lists test half pair n =
    let rest = map pair (upto n) in
    omega (
      arith,
      count_by-cons test (half 0) (half 1 ∷ half 2 ∷ rest),
      count_by-cons test (half 1) (half 2 ∷ rest),
      count_by-cons test (half 2) rest,
      count_by-map test pair (upto n),
    )

-- tests that agree below n have one count
pub count_same : (s t : ℕ → Bool) (n : ℕ) → ((k : ℕ) → k < n → s k ≡ t k) → count_by s (upto n) ≡ count_by t (upto n)
count_same s t n h =
    let e = total-upto_same (λ k. pos (one_if (s k))) (λ k. pos (one_if (t k))) n (λ k l. ap (λ b. pos (one_if b)) (h k l)) in
    omega (arith, ints, e, total-count_by s (upto n), total-count_by t (upto n))

-- a test that fails everywhere
pub count_none : (s : ℕ → Bool) (n : ℕ) → ((k : ℕ) → s k ≡ false) → count_by s (upto n) ≡ 0
count_none s n h = count_same s (λ k. false) n (λ k l. h k) ∙ nothing (upto n)
  where
    nothing : (xs : List ℕ) → count_by (λ k. false) xs ≡ 0
    nothing [] = refl
    nothing (x ∷ xs) = omega (arith, count_by-cons (λ (k : ℕ). false) x xs, nothing xs)

-- a test that holds at one number at most
pub count_one : (s : ℕ → Bool) (b : Bool) (i n : ℕ) → i < n → ((k : ℕ) → s k ≡ cond (i == k) b false) → count_by s (upto n) ≡ one_if b
count_one s b i n l h =
    let each = total-upto_same (λ k. pos (one_if (s k))) (λ k. where_same k i (pos (one_if b))) n (λ k m. ap (λ t. pos (one_if t)) (h k) ∙ at k) in
    omega (arith, ints, each, one_hit (pos (one_if b)) i n l, total-count_by s (upto n))
  where
    at : (k : ℕ) → pos (one_if (cond (i == k) b false)) ≡ where_same k i (pos (one_if b))
    at k = elim (cases_eq i k) as (λ _. pos (one_if (cond (i == k) b false)) ≡ where_same k i (pos (one_if b))) [
      | inl e ↦ ap (λ t. pos (one_if (cond t b false))) (eq-eqb i k e) ∙ sym (where_same-at k i (pos (one_if b)) (sym e))
      | inr d ↦ ap (λ t. pos (one_if (cond t b false))) (ne_eqb i k d) ∙ sym (where_same-apart k i (pos (one_if b)) (λ e. d (sym e)))
    ]
