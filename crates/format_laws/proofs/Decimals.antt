-- Decimal numbers are words of digits that spell them.
use Rattle.std.proofs.Common.{◌≡◌, ℕ, ◌+◌, ◌*◌, ◌/◌, ◌%◌, ◌^◌, ◌-◌, ◌<◌, ◌==◌, if◌then◌else◌, Bool, List, [], ◌∷◌, ◌++◌, true, false, decimal, ap, ◌∙◌, arith, length-append, Option, Some, None}
use Rattle.std.proofs.lemmas.Bool.Decides.{nat_tests}
use Rattle.std.proofs.lemmas.Fmt.{decimal_by_steps}
use Rattle.text_terms.proofs.Digits.{all_digits-append, value_from-append}
use Rattle.text_terms.specs.Numbers.{all_digits, is_digits, digits_value}
use Rattle.format_terms.specs.ObjFaces.{minus_first}
use Rattle.format_laws.proofs.Bytes.{Above-append, IsWord}

-- a word of digits that spell n
pub record IsSpelled (n : ℕ) (ds : List ℕ) : Type 0 where
  pub word : IsWord ds
  pub digits : all_digits ds ≡ true
  pub value : digits_value ds ≡ n

-- one digit
IsSpelled-digit : (d : ℕ) → d < 10 → IsSpelled d ((48 + d) ∷ [])
IsSpelled-digit d small = record {
  word = record { some = omega arith; marks = (omega arith, tt) };
  digits = grind (arith, nat_tests);
  value = omega arith;
}

-- one digit more
IsSpelled-more : (n : ℕ) (ds : List ℕ) → IsSpelled (n / 10) ds → IsSpelled n (ds ++ (48 + n % 10) ∷ [])
IsSpelled-more n ds s =
    let last = IsSpelled-digit (n % 10) (omega arith) in
    record {
      word = record { some = omega (arith, length-append ds ((48 + n % 10) ∷ [])); marks = Above-append 32 ds ((48 + n % 10) ∷ []) s.word.marks last.word.marks };
      digits = all_digits-append ds ((48 + n % 10) ∷ []) s.digits last.digits;
      value = value_from-append 0 ds ((48 + n % 10) ∷ []) ∙ ap (λ (v : ℕ). v * 10 + (48 + n % 10 - 48)) s.value ∙ omega arith;
    }

-- a number is spelled by what is written of it
pub IsSpelled-decimal : (n : ℕ) → n < 2 ^ 64 → IsSpelled n (decimal n)
IsSpelled-decimal = decimal_by_steps IsSpelled IsSpelled-digit (λ n ds large s. IsSpelled-more n ds s)

-- such a word is digits
pub is_digits-spelled : (n : ℕ) (ds : List ℕ) → IsSpelled n ds → is_digits ds ≡ true
is_digits-spelled n [] s = absurd (omega (arith, s.word.some))
is_digits-spelled n (d ∷ ds) s = s.digits

-- and begins with no sign
pub minus_first-spelled : (n : ℕ) (ds : List ℕ) → IsSpelled n ds → minus_first ds ≡ (false, ds)
minus_first-spelled n [] s = absurd (omega (arith, s.word.some))
minus_first-spelled n (d ∷ ds) s =
    let sign : (d == 45) ≡ false = grind (arith, nat_tests, s.digits) in
    ap (λ (b : Bool). if b then (true, ds) else (false, d ∷ ds)) sign

-- a sign and what stands after it, as a sign and a size
abbrev pub sized : Bool × List ℕ → Option (Bool × ℕ)
sized s = if is_digits s.1 then Some (s.0, digits_value s.1) else None

-- digits have a size, with a sign before them or without
pub sized-spelled : (negative : Bool) (n : ℕ) (ds : List ℕ) → IsSpelled n ds → sized (negative, ds) ≡ Some (negative, n)
sized-spelled negative n ds s =
    ap (λ (b : Bool). if b then Some (negative, digits_value ds) else None) (is_digits-spelled n ds s)
    ∙ ap (λ (v : ℕ). Some (negative, v)) s.value
