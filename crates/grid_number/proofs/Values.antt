-- The whole number that digits spell.
use Rattle.std.proofs.Common.{◌≡◌, ℕ, zero, suc, ◌+◌, ◌*◌, ◌/◌, ◌%◌, ◌^◌, ◌-◌, ◌<◌, ◌&&◌, ◌==◌, if◌then◌else◌, Bool, List, [], ◌∷◌, true, false, length, decimal, refl, sym, ap, ◌∙◌, arith}
use Rattle.std.proofs.Math.Nat.{pow-suc, pow-succ', mod-one, mul_assoc}
use Rattle.std.proofs.Math.Arith.{mod-mul}
use Rattle.std.proofs.lemmas.Fmt.{decimal_by_steps}
use Rattle.text_terms.proofs.Digits.{value_from-append}
use Rattle.text_terms.specs.Numbers.{value_from, digits_value}
use Rattle.text_terms.specs.Written.{last_digits, without_zeros, is_empty}
use Rattle.grid_number.proofs.KeptDigits.{ten_pow_pos}

-- what is written of a whole number spells it
pub digits_value-decimal : (n : ℕ) → n < 2 ^ 64 → digits_value (decimal n) ≡ n
digits_value-decimal = decimal_by_steps (λ m ds. digits_value ds ≡ m) (λ m small. omega arith)
    (λ m ds large front. value_from-append 0 ds ((48 + m % 10) ∷ [])
    ∙ ap (λ (v : ℕ). v * 10 + (48 + m % 10 - 48)) front ∙ omega arith)

-- the last k digits move a value by k places
pub value_from-last_digits : (k v n : ℕ) → value_from v (last_digits k n) ≡ v * 10 ^ k + n % 10 ^ k
value_from-last_digits zero v n = omega (arith, mod-one n)
value_from-last_digits (suc k) v n =
    let e : n % 10 ^ suc k ≡ (n / 10 % 10 ^ k) * 10 + n % 10 = ap (λ (m : ℕ). n % m) (pow-suc 10 k)
    ∙ mod-mul n (ten_pow_pos k) (omega arith) in
    let p : v * 10 ^ suc k ≡ v * 10 ^ k * 10 = ap (λ (m : ℕ). v * m) (pow-suc 10 k) ∙ sym (mul_assoc v (10 ^ k) 10) in
    value_from-append v (last_digits k (n / 10)) ((48 + n % 10) ∷ [])
    ∙ ap (λ (m : ℕ). m * 10 + (48 + n % 10 - 48)) (value_from-last_digits k v (n / 10))
    ∙ omega (arith, e, p)

-- ws are the digits ds without j zeros at the end
pub record IsTrimmed (j : ℕ) (ws ds : List ℕ) : Type 0 where
  pub places : length ws + j ≡ length ds
  pub value : (v : ℕ) → value_from v ws * 10 ^ j ≡ value_from v ds

-- a digit in front
trimmed-choice : (b : Bool) (j c : ℕ) (ws cs : List ℕ) → ((c == 48) && is_empty ws) ≡ b → IsTrimmed j ws cs →
    (i : ℕ) × IsTrimmed i (if b then [] else c ∷ ws) (c ∷ cs)
trimmed-choice true j c [] cs test t =
    let zero_digit : c ≡ 48 = grind arith in (
      suc j,
      record {
        places = omega (arith, t.places);
        value = λ v.
            let e : v * 10 ^ suc j ≡ v * 10 * 10 ^ j = ap (λ (m : ℕ). v * m) (pow-succ' 10 j)
            ∙ sym (mul_assoc v 10 (10 ^ j)) in
            let same : v * 10 ≡ v * 10 + (c - 48) = omega (arith, zero_digit) in
            e ∙ ap (λ (m : ℕ). m * 10 ^ j) same ∙ t.value (v * 10 + (c - 48));
      },
    )
trimmed-choice true j c (w ∷ ws) cs test t = absurd (grind arith)
trimmed-choice false j c ws cs test t = (
  j,
  record
      { places = omega (arith, t.places); value = λ v. t.value (v * 10 + (c - 48)) },
)

-- trailing zeros are places
pub IsTrimmed-without_zeros : (ds : List ℕ) → (j : ℕ) × IsTrimmed j (without_zeros ds) ds
IsTrimmed-without_zeros [] = (0, record { places = refl; value = λ v. omega arith })
IsTrimmed-without_zeros (c ∷ cs) =
    let t = IsTrimmed-without_zeros cs in
    trimmed-choice ((c == 48) && is_empty (without_zeros cs)) t.0 c (without_zeros cs) cs refl t.1
