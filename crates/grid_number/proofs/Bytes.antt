-- What a written number is made of, and how long it is.
use Rattle.std.proofs.Common.{◌≡◌, ℕ, zero, suc, ◌+◌, ◌*◌, ◌/◌, ◌%◌, ◌^◌, ◌-◌, ◌<◌, ◌≤◌, ◌&&◌, ◌==◌, if◌then◌else◌, Bool, List, [], ◌∷◌, ◌++◌, true, false, IsTrue, length, decimal, refl, sym, ap, ◌∙◌, arith, length-append, All, nat_abs, ℤ, pos, int_lt, codes}
use Rattle.std.proofs.lemmas.Fmt.{decimal_by_steps, length-decimal-le, decimal_nonempty}
use Rattle.std.proofs.lemmas.List.Elements.{All-append, All-nil, All-cons}
use Rattle.std.proofs.Math.Nat.{div-le_self}
use Rattle.std.proofs.lemmas.Bool.Decides.{nat_tests}
use Rattle.std.proofs.lemmas.Nat.{mod_below, div_below, pow-add}
use Rattle.text_terms.proofs.Digits.{both, left, right, all_digits-append}
use Rattle.text_terms.specs.Numbers.{is_digit, all_digits, is_on_grid}
use Rattle.text_terms.specs.Written.{last_digits, without_zeros, is_empty, written_rest, written_size, written}
use Rattle.grid_number.specs.Bytes.{is_number_byte}
use Rattle.grid_number.proofs.KeptDigits.{ten_pow_pos, kept_digits, length-kept_digits}

-- the byte of a decimal digit
pub is_digit-of : (d : ℕ) → d < 10 → is_digit (48 + d) ≡ true
is_digit-of d small = grind (arith, nat_tests)

-- one digit
all_digits-one : (d : ℕ) → d < 10 → all_digits ((48 + d) ∷ []) ≡ true
all_digits-one d small = both (is_digit (48 + d)) true (is_digit-of d small) refl

-- a whole number is written in digits
pub all_digits-decimal : (n : ℕ) → n < 2 ^ 64 → all_digits (decimal n) ≡ true
all_digits-decimal = decimal_by_steps (λ m ds. all_digits ds ≡ true) all_digits-one
    (λ m ds large digits. all_digits-append ds ((48 + m % 10) ∷ []) digits
    (all_digits-one (m % 10) (mod_below m 10 (omega arith))))

-- so are the last digits of a number
pub all_digits-last_digits : (k n : ℕ) → all_digits (last_digits k n) ≡ true
all_digits-last_digits zero n = refl
all_digits-last_digits (suc k) n = all_digits-append (last_digits k (n / 10)) ((48 + n % 10) ∷ [])
    (all_digits-last_digits k (n / 10)) (all_digits-one (n % 10) (mod_below n 10 (omega arith)))

all_digits-choice : (b : Bool) (c : ℕ) (ds : List ℕ) → is_digit c ≡ true → all_digits ds ≡ true →
    all_digits (if b then [] else c ∷ ds) ≡ true
all_digits-choice true c ds p q = refl
all_digits-choice false c ds p q = both (is_digit c) (all_digits ds) p q

-- and what is left of digits without trailing zeros
pub all_digits-without_zeros : (ds : List ℕ) → all_digits ds ≡ true → all_digits (without_zeros ds) ≡ true
all_digits-without_zeros [] digits = refl
all_digits-without_zeros (c ∷ cs) digits =
    all_digits-choice ((c == 48) && is_empty (without_zeros cs)) c (without_zeros cs)
    (left (is_digit c) (all_digits cs) digits)
    (all_digits-without_zeros cs (right (is_digit c) (all_digits cs) digits))

-- the rest of a written number
pub all_digits-kept_digits : (k n : ℕ) → all_digits (kept_digits k n) ≡ true
unfolding kept_digits
all_digits-kept_digits k n = all_digits-without_zeros (last_digits k n) (all_digits-last_digits k n)

-- bytes of a number
abbrev pub AreNumberBytes : List ℕ → Type 0
AreNumberBytes cs = All (λ c. IsTrue (is_number_byte c)) cs

number_byte : (c : ℕ) → is_digit c ≡ true → is_number_byte c ≡ true
number_byte c digit = grind arith

AreNumberBytes-digits : (ds : List ℕ) → all_digits ds ≡ true → AreNumberBytes ds
AreNumberBytes-digits [] digits = All-nil (λ c. IsTrue (is_number_byte c))
AreNumberBytes-digits (c ∷ cs) digits =
    All-cons (λ c. IsTrue (is_number_byte c)) c cs (number_byte c (left (is_digit c) (all_digits cs) digits))
    (AreNumberBytes-digits cs (right (is_digit c) (all_digits cs) digits))

-- the rest, with its point
pub AreNumberBytes-rest : (k rest : ℕ) → AreNumberBytes (written_rest k rest)
AreNumberBytes-rest k rest = elim (rest == 0) as (λ b. AreNumberBytes
    (if b then [] else codes "." ++ without_zeros (last_digits k rest))) [
      | true ↦ All-nil (λ c. IsTrue (is_number_byte c))
      | false ↦ All-cons (λ c. IsTrue (is_number_byte c)) 46 (without_zeros (last_digits k rest)) refl
          (AreNumberBytes-digits (without_zeros (last_digits k rest))
          (all_digits-without_zeros (last_digits k rest) (all_digits-last_digits k rest)))
    ]

-- a size
pub AreNumberBytes-size : (k n : ℕ) → n < 2 ^ 64 → AreNumberBytes (written_size k n)
AreNumberBytes-size k n small =
    All-append (λ c. IsTrue (is_number_byte c)) (decimal (n / 10 ^ k)) (written_rest k (n % 10 ^ k))
    (AreNumberBytes-digits (decimal (n / 10 ^ k)) (all_digits-decimal (n / 10 ^ k)
    (omega (arith, div-le_self n (10 ^ k))))) (AreNumberBytes-rest k (n % 10 ^ k))

-- a written number has only digits, `-` and `.`
pub AreNumberBytes-written : (k : ℕ) (z : ℤ) → nat_abs z < 2 ^ 64 → AreNumberBytes (written k z)
AreNumberBytes-written k z small = elim (int_lt z (pos 0)) as
    (λ b. AreNumberBytes (if b then codes "-" ++ written_size k (nat_abs z) else written_size k (nat_abs z))) [
      | true ↦ All-cons (λ c. IsTrue (is_number_byte c)) 45 (written_size k (nat_abs z)) refl
          (AreNumberBytes-size k (nat_abs z) small)
      | false ↦ AreNumberBytes-size k (nat_abs z) small
    ]

-- the rest has at most k digits and a point
length-rest : (k rest : ℕ) → length (written_rest k rest) ≤ k + 1
unfolding kept_digits
length-rest k rest = elim (rest == 0) as (λ b. length
    (if b then [] else codes "." ++ without_zeros (last_digits k rest)) ≤ k + 1)
    [ true ↦ omega arith | false ↦ omega (arith, length-kept_digits k rest) ]

-- with no digits there is none
length-no_rest : (rest : ℕ) → rest < 1 → length (written_rest 0 rest) ≡ 0
length-no_rest rest small = let e : rest ≡ 0 = omega arith in ap (λ (r : ℕ). length (written_rest 0 r)) e

-- a whole part has at most 10 - k digits
pub length-whole : (k n : ℕ) → k ≤ 6 → n ≤ 2 ^ 30 → length (decimal (n / 10 ^ k)) ≤ 10 - k
length-whole k n few small =
    let e : (10 - k) + k ≡ 10 = omega arith in
    let p : 10 ^ (10 - k) * 10 ^ k ≡ 10 ^ 10 = sym (pow-add 10 (10 - k) k) ∙ ap (λ (m : ℕ). 10 ^ m) e in
    let below : n / 10 ^ k < 10 ^ (10 - k) =
    div_below n (10 ^ k) (10 ^ (10 - k)) (ten_pow_pos k) (omega (arith, p)) in
    length-decimal-le (10 - k) (n / 10 ^ k) (omega arith) below (omega (arith, div-le_self n (10 ^ k)))

-- a size has at most 11 bytes, and one at least
pub length-size : (k n : ℕ) → k ≤ 6 → n ≤ 2 ^ 30 → (length (written_size k n) ≤ 11) × (0 < length (written_size k n))
length-size zero n few small =
    let whole : length (decimal (n / 10 ^ 0)) ≤ 10 = length-whole 0 n few small in
    let all : length (written_size 0 n) ≡ length (decimal (n / 10 ^ 0)) + length (written_rest 0 (n % 10 ^ 0)) =
    length-append (decimal (n / 10 ^ 0)) (written_rest 0 (n % 10 ^ 0)) in
    let none : length (written_rest 0 (n % 10 ^ 0)) ≡ 0 = length-no_rest (n % 10 ^ 0)
    (mod_below n (10 ^ 0) (omega arith)) in
    let some : 0 < length (decimal (n / 10 ^ 0)) = decimal_nonempty (n / 10 ^ 0)
    (omega (arith, div-le_self n (10 ^ 0))) in
    (omega arith, omega arith)
length-size (suc k) n few small =
    let whole : length (decimal (n / 10 ^ suc k)) ≤ 10 - suc k = length-whole (suc k) n few small in
    let all : length (written_size (suc k) n) ≡ length (decimal (n / 10 ^ suc k)) + length
    (written_rest (suc k) (n % 10 ^ suc k)) = length-append (decimal (n / 10 ^ suc k))
    (written_rest (suc k) (n % 10 ^ suc k)) in
    let rest : length (written_rest (suc k) (n % 10 ^ suc k)) ≤ suc k + 1 = length-rest (suc k) (n % 10 ^ suc k) in
    let some : 0 < length (decimal (n / 10 ^ suc k)) = decimal_nonempty (n / 10 ^ suc k)
    (omega (arith, div-le_self n (10 ^ suc k))) in
    (omega arith, omega arith)

-- a written grid number has at most 12 bytes, and one at least
pub length-written : (k : ℕ) (z : ℤ) → k ≤ 6 → nat_abs z ≤ 2 ^ 30 →
    (length (written k z) ≤ 12) × (0 < length (written k z))
length-written k z few small =
    let size = length-size k (nat_abs z) few small in
    elim (int_lt z (pos 0)) as (λ b.
    (length (if b then codes "-" ++ written_size k (nat_abs z) else written_size k (nat_abs z)) ≤ 12) ×
    (0 < length (if b then codes "-" ++ written_size k (nat_abs z) else written_size k (nat_abs z))))
    [ true ↦ (omega (arith, size.0), omega arith) | false ↦ (omega (arith, size.0), size.1) ]

-- from the test to the bound
pub on_grid-bound : (z : ℤ) → IsTrue (is_on_grid z) → nat_abs z ≤ 2 ^ 30
on_grid-bound z h = grind (arith, nat_tests)
