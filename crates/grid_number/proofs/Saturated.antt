-- Sizes as far as a word holds them.
use Rattle.std.proofs.Common.{◌≡◌, ℕ, zero, suc, ◌+◌, ◌*◌, ◌^◌, ◌-◌, ◌<◌, ◌≤◌, min, Bool, List, [], ◌∷◌, ◌++◌, true, false, length, take, drop, get_or, refl, sym, ap, ◌∙◌, arith, add-one, if◌then◌else◌, inl, inr, ℤ, pos, negsuc, nat_abs, neg_ℤ, int_lt}
use Rattle.std.proofs.Math.Nat.{pow-suc, mul_assoc, mul_comm, zero-mul, pow-le-pow_right, le-mul_of_pos_right}
use Rattle.std.proofs.lemmas.Bool.{cases_lt}
use Rattle.std.proofs.lemmas.List.{take_more, take-append-drop}
use Rattle.text_terms.specs.Numbers.{is_digit, all_digits, value_from}
use Rattle.grid_number.specs.Reading.{saturated, saturated_size}
use Rattle.text_terms.proofs.Digits.{both, left, right, all_digits-append, value_from-append}

-- a digit behind what is known of a size
pub saturated-digit : (v d : ℕ) → saturated (saturated v * 10 + d) ≡ saturated (v * 10 + d)
saturated-digit v d = omega arith

-- the same of a sum
pub saturated-add : (v d : ℕ) → saturated (saturated v + d) ≡ saturated (v + d)
saturated-add v d = omega arith

-- what is known of a size is known of it with digits behind
pub saturated-value_from : (v : ℕ) (ds : List ℕ) → saturated (value_from (saturated v) ds) ≡ saturated
    (value_from v ds)
saturated-value_from v [] = omega arith
saturated-value_from v (d ∷ ds) =
    sym (saturated-value_from (saturated v * 10 + (d - 48)) ds)
    ∙ ap (λ (w : ℕ). saturated (value_from w ds)) (saturated-digit v (d - 48))
    ∙ saturated-value_from (v * 10 + (d - 48)) ds

-- a step of reading digits
pub saturated-step : (before i next : ℕ) (text : List ℕ) (value : ℕ) → i < length text →
    value ≡ saturated (value_from before (take i text)) →
    next ≡ saturated (value * 10 + (get_or text i 0 - 48)) → next ≡ saturated (value_from before (take (i + 1) text))
saturated-step before i next text value inside known appended =
    let known_of_front : value_from before (take (i + 1) text) ≡ value_from before (take i text) * 10 +
    (get_or text i 0 - 48) =
    ap (value_from before) (take_more text i 0 inside) ∙ value_from-append before (take i text) (get_or text i 0 ∷ []) in
    appended ∙ ap (λ (v : ℕ). saturated (v * 10 + (get_or text i 0 - 48))) known
    ∙ saturated-digit (value_from before (take i text)) (get_or text i 0 - 48) ∙ sym (ap saturated known_of_front)

-- one digit more
pub all_digits-step : (i : ℕ) (text : List ℕ) → i < length text → all_digits (take i text) ≡ true →
    is_digit (get_or text i 0) ≡ true → all_digits (take (i + 1) text) ≡ true
all_digits-step i text inside digits digit =
    ap all_digits (take_more text i 0 inside)
    ∙ all_digits-append (take i text) (get_or text i 0 ∷ []) digits
    (both (is_digit (get_or text i 0)) true digit refl)

-- each of some digits is one
pub is_digit-at : (ds : List ℕ) (i : ℕ) → i < length ds → all_digits ds ≡ true → is_digit (get_or ds i 0) ≡ true
is_digit-at [] i inside digits = absurd (omega arith)
is_digit-at (d ∷ ds) zero inside digits = left (is_digit d) (all_digits ds) digits
is_digit-at (d ∷ ds) (suc i) inside digits = is_digit-at ds i (omega arith)
    (right (is_digit d) (all_digits ds) digits)

-- a zero behind is a place
pub saturated-place : (v i size next : ℕ) → size ≡ saturated (v * 10 ^ i) → next ≡ saturated (size * 10 + (48 - 48)) →
    next ≡ saturated (v * 10 ^ (i + 1))
saturated-place v i size next known appended =
    let p : v * 10 ^ (i + 1) ≡ v * 10 ^ i * 10 = ap (λ (m : ℕ). v * 10 ^ m) (add-one i)
    ∙ ap (λ (m : ℕ). v * m) (pow-suc 10 i) ∙ sym (mul_assoc v (10 ^ i) 10) in
    appended ∙ ap (λ (x : ℕ). saturated (x * 10 + 0)) known ∙ saturated-digit (v * 10 ^ i) 0
    ∙ ap saturated (omega (arith, p))

-- with 20 places anything but 0 is full, so more of them change nothing
pub saturated-high : (v j : ℕ) → 20 ≤ j → saturated (v * 10 ^ j) ≡ saturated (v * 10 ^ 20)
saturated-high zero j high = ap saturated (zero-mul (10 ^ j))
saturated-high (suc v) j high =
    let least : 10 ^ 20 ≤ 10 ^ j = pow-le-pow_right (omega arith) high in
    let more : 10 ^ j ≤ 10 ^ j * suc v = le-mul_of_pos_right (10 ^ j) (omega arith) in
    let there : 10 * 2 ^ 60 ≤ suc v * 10 ^ j = omega (arith, least, more, mul_comm (10 ^ j) (suc v)) in
    omega (arith, there)

-- places up to 20 of them
pub saturated-raised : (v size places : ℕ) → size ≡ saturated (v * 10 ^ min places 20) →
    size ≡ saturated (v * 10 ^ places)
saturated-raised v size places known = grind (arith, saturated-high)

-- the front and the back of digits
pub all_digits-front : (xs ys : List ℕ) → all_digits (xs ++ ys) ≡ true → all_digits xs ≡ true
all_digits-front [] ys digits = refl
all_digits-front (x ∷ xs) ys digits = both (is_digit x) (all_digits xs)
    (left (is_digit x) (all_digits (xs ++ ys)) digits) (all_digits-front xs ys
    (right (is_digit x) (all_digits (xs ++ ys)) digits))

pub all_digits-back : (xs ys : List ℕ) → all_digits (xs ++ ys) ≡ true → all_digits ys ≡ true
all_digits-back [] ys digits = digits
all_digits-back (x ∷ xs) ys digits = all_digits-back xs ys (right (is_digit x) (all_digits (xs ++ ys)) digits)

pub all_digits-take : (n : ℕ) (ds : List ℕ) → all_digits ds ≡ true → all_digits (take n ds) ≡ true
all_digits-take n ds digits = all_digits-front (take n ds) (drop n ds)
    (ap all_digits (take-append-drop n ds) ∙ digits)

pub all_digits-drop : (n : ℕ) (ds : List ℕ) → all_digits ds ≡ true → all_digits (drop n ds) ≡ true
all_digits-drop n ds digits = all_digits-back (take n ds) (drop n ds) (ap all_digits (take-append-drop n ds) ∙ digits)

-- a sign keeps the size
pub nat_abs-neg : (n : ℕ) → nat_abs (neg_ℤ (pos n)) ≡ n
nat_abs-neg zero = refl
nat_abs-neg (suc n) = refl

-- a part of a size
pub saturated-times : (v m : ℕ) → 0 < m → saturated (saturated v * m) ≡ saturated (v * m)
saturated-times v m some = elim (cases_lt v (10 * 2 ^ 60)) [
  | inl few ↦ let same : saturated v ≡ v = omega arith in ap (λ (x : ℕ). saturated (x * m)) same
  | inr many ↦
      let more : 10 * 2 ^ 60 ≤ 10 * 2 ^ 60 * m = le-mul_of_pos_right (10 * 2 ^ 60) some in
      let most : v ≤ v * m = le-mul_of_pos_right v some in
      let full : saturated v ≡ 10 * 2 ^ 60 = omega arith in
      ap (λ (x : ℕ). saturated (x * m)) full ∙ omega (arith, more, most, many)
]

within-at : (b : Bool) (n : ℕ) → nat_abs (if b then neg_ℤ (pos (saturated n)) else pos (saturated n)) ≤ 10 * 2 ^ 60
within-at true n = omega (arith, nat_abs-neg (saturated n))
within-at false n = omega arith

-- an exponent stays within
pub saturated_size-within : (z : ℤ) → nat_abs (saturated_size z) ≤ 10 * 2 ^ 60
saturated_size-within (pos n) = within-at (int_lt (pos n) (pos 0)) n
saturated_size-within (negsuc n) = within-at true (suc n)
