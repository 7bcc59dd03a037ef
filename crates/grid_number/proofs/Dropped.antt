-- Rounding by the first dropped digit.
use Rattle.std.proofs.Common.{◌≡◌, ℕ, zero, suc, ◌+◌, ◌*◌, ◌/◌, ◌^◌, ◌-◌, ◌<◌, ◌≤◌, nat_lt, if◌then◌else◌, Bool, List, [], ◌∷◌, ◌++◌, true, false, length, get_or, refl, sym, ap, ◌∙◌, arith, pos, negsuc, neg_ℤ}
use Rattle.std.proofs.Math.Nat.{pow-succ', mul_assoc, div-eq_of_lt, pow-le-pow_right, add-mul}
use Rattle.std.proofs.lemmas.Nat.{div-mul-add, mul-le}
use Rattle.std.proofs.lemmas.Bool.Decides.{nat_tests}
use Rattle.text_terms.specs.Numbers.{is_digit, all_digits, value_from, digits_value, scaled}
use Rattle.grid_number.specs.Reading.{saturated}
use Rattle.grid_number.proofs.Saturated.{saturated-add}
use Rattle.text_terms.proofs.Digits.{left, right, value_from-append}

-- digits below 5 are dropped
pub drop_low : (a b r k : ℕ) → b ≤ 4 → r < k → (a * (10 * k) + (b * k + r) + 5 * k) / (10 * k) ≡ a
drop_low a b r k low small =
    let m : b * k ≤ 4 * k = mul-le b k 4 k low (omega arith) in
    let e : a * (10 * k) + (b * k + r) + 5 * k ≡ a * (10 * k) + ((b * k + r) + 5 * k) = omega arith in
    ap (λ t. t / (10 * k)) e ∙ div-mul-add a (10 * k) ((b * k + r) + 5 * k) (omega (arith, m))

-- digits from 5 on raise the next place
pub drop_high : (a c r k : ℕ) → c ≤ 4 → r < k → (a * (10 * k) + ((5 + c) * k + r) + 5 * k) / (10 * k) ≡ a + 1
drop_high a c r k low small =
    let m : c * k ≤ 4 * k = mul-le c k 4 k low (omega arith) in
    let e : a * (10 * k) + ((5 + c) * k + r) + 5 * k ≡ (a + 1) * (10 * k) + (c * k + r) = omega arith in
    ap (λ t. t / (10 * k)) e ∙ div-mul-add (a + 1) (10 * k) (c * k + r) (omega (arith, m))

-- what stands in front counts by its place
pub value_from-front : (v : ℕ) (ds : List ℕ) → value_from v ds ≡ v * 10 ^ length ds + value_from 0 ds
value_from-front v [] = omega arith
value_from-front v (d ∷ ds) =
    let k = 10 ^ length ds in
    let e : 10 ^ suc (length ds) ≡ 10 * k = pow-succ' 10 (length ds) in
    let p : v * 10 ^ suc (length ds) ≡ v * 10 * k = ap (λ (m : ℕ). v * m) e ∙ sym (mul_assoc v 10 k) in
    let front = value_from-front (v * 10 + (d - 48)) ds in
    let alone = value_from-front (0 * 10 + (d - 48)) ds in
    let q : (v * 10 + (d - 48)) * k ≡ v * 10 * k + (d - 48) * k = add-mul (v * 10) (d - 48) k in
    let z : (0 * 10 + (d - 48)) * k ≡ (d - 48) * k = ap (λ (m : ℕ). m * k) (omega arith) in
    omega (arith, p, front, alone, q, z)

-- the byte of a digit
pub digit-at_most : (d : ℕ) → is_digit d ≡ true → d - 48 ≤ 9
digit-at_most d digit = grind (arith, nat_tests)

-- n digits spell less than 10 ^ n
pub digits_value-below : (ds : List ℕ) → all_digits ds ≡ true → digits_value ds < 10 ^ length ds
digits_value-below [] digits = omega arith
digits_value-below (d ∷ ds) digits =
    let k = 10 ^ length ds in
    let e : 10 ^ suc (length ds) ≡ 10 * k = pow-succ' 10 (length ds) in
    let alone = value_from-front (0 * 10 + (d - 48)) ds in
    let z : (0 * 10 + (d - 48)) * k ≡ (d - 48) * k = ap (λ (m : ℕ). m * k) (omega arith) in
    let m : (d - 48) * k ≤ 9 * k = mul-le (d - 48) k 9 k (digit-at_most d (left (is_digit d) (all_digits ds) digits))
    (omega arith) in
    let rest = digits_value-below ds (right (is_digit d) (all_digits ds) digits) in
    omega (arith, e, alone, z, m, rest)

-- places down
pub scaled-down : (m n : ℕ) → scaled m (negsuc n) ≡ (m + 5 * 10 ^ n) / (10 * 10 ^ n)
scaled-down m n =
    ap (λ (j : ℕ). (m + 5 * 10 ^ j) / 10 ^ suc n) (omega arith)
    ∙ ap (λ (p : ℕ). (m + 5 * 10 ^ n) / p) (pow-succ' 10 n)

-- the first dropped digit b, and r behind it
dropped-choice : (a b r k : ℕ) → is_digit b ≡ true → r < k → (low : Bool) → nat_lt b 53 ≡ low →
    (a * (10 * k) + ((b - 48) * k + r) + 5 * k) / (10 * k) ≡ a + (if low then 0 else 1)
dropped-choice a b r k digit small true test =
    let few : b - 48 ≤ 4 = grind (arith, nat_tests) in
    drop_low a (b - 48) r k few small ∙ omega arith
dropped-choice a b r k digit small false test =
    let few : b - 53 ≤ 4 = grind (arith, nat_tests) in
    let same : b - 48 ≡ 5 + (b - 53) = grind (arith, nat_tests) in
    ap (λ (d : ℕ). (a * (10 * k) + (d * k + r) + 5 * k) / (10 * k)) same ∙ drop_high a (b - 53) r k few small

-- the first dropped digit decides
pub scaled-dropped : (front : List ℕ) (b : ℕ) (back : List ℕ) → all_digits (b ∷ back) ≡ true →
    scaled (digits_value (front ++ b ∷ back)) (negsuc (length back)) ≡ digits_value front +
    (if nat_lt b 53 then 0 else 1)
scaled-dropped front b back digits =
    let a = digits_value front in
    let k = 10 ^ length back in
    let p : (a * 10 + (b - 48)) * k ≡ a * (10 * k) + (b - 48) * k = add-mul (a * 10) (b - 48) k
    ∙ ap (λ (x : ℕ). x + (b - 48) * k) (mul_assoc a 10 k) in
    let m : digits_value (front ++ b ∷ back) ≡ a * (10 * k) + ((b - 48) * k + digits_value back) =
    value_from-append 0 front (b ∷ back) ∙ value_from-front (a * 10 + (b - 48)) back ∙ omega (arith, p) in
    scaled-down (digits_value (front ++ b ∷ back)) (length back)
    ∙ ap (λ (x : ℕ). (x + 5 * k) / (10 * k)) m
    ∙ dropped-choice a b (digits_value back) k (left (is_digit b) (all_digits back) digits)
    (digits_value-below back (right (is_digit b) (all_digits back) digits)) (nat_lt b 53) refl

-- past the first digit nothing is left
pub scaled-gone : (ds : List ℕ) (n : ℕ) → all_digits ds ≡ true → length ds ≤ n →
    scaled (digits_value ds) (negsuc n) ≡ 0
scaled-gone ds n digits past =
    let k = 10 ^ n in
    let most : 10 ^ length ds ≤ k = pow-le-pow_right (omega arith) past in
    let below : digits_value ds < k = omega (arith, digits_value-below ds digits, most) in
    scaled-down (digits_value ds) n ∙ div-eq_of_lt (omega arith)

-- a size rounded by the first of the digits that are dropped
pub rounded-is : (front lost : List ℕ) (places kept size : ℕ) → all_digits lost ≡ true → length lost ≡ places →
    1 ≤ places →
    kept ≡ saturated (digits_value front) → size ≡ saturated (kept + (if nat_lt (get_or lost 0 0) 53 then 0 else 1)) →
    size ≡ saturated (scaled (digits_value (front ++ lost)) (neg_ℤ (pos places)))
rounded-is front [] places kept size digits long some known rounded = absurd (omega arith)
rounded-is front (b ∷ back) places kept size digits long some known rounded =
    let up = (if nat_lt b 53 then 0 else 1) in
    rounded ∙ ap (λ (x : ℕ). saturated (x + up)) known ∙ saturated-add (digits_value front) up
    ∙ sym (ap saturated (scaled-dropped front b back digits))
    ∙ ap (λ (j : ℕ). saturated (scaled (digits_value (front ++ b ∷ back)) (neg_ℤ (pos j)))) long

-- places past all digits leave nothing
pub scaled-nothing : (ds : List ℕ) (places : ℕ) → all_digits ds ≡ true → length ds < places →
    saturated (scaled (digits_value ds) (neg_ℤ (pos places))) ≡ 0
scaled-nothing ds zero digits past = absurd (omega arith)
scaled-nothing ds (suc n) digits past = ap saturated (scaled-gone ds n digits (omega arith)) ∙ omega arith
