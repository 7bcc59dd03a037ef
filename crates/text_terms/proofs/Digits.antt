-- Digits after digits.
use Rattle.std.proofs.Common.{◌≡◌, ℕ, ◌+◌, ◌-◌, ◌*◌, ◌&&◌, Bool, true, List, [], ◌∷◌, ◌++◌, refl, arith}
use Rattle.text_terms.specs.Numbers.{all_digits, is_digit, value_from}

-- of two tests that hold each holds, and two that hold hold together

pub both : (a b : Bool) → a ≡ true → b ≡ true → (a && b) ≡ true
both a b p q = grind arith

pub left : (a b : Bool) → (a && b) ≡ true → a ≡ true
left a b p = grind arith

pub right : (a b : Bool) → (a && b) ≡ true → b ≡ true
right a b p = grind arith

-- digits after digits are digits
pub all_digits-append : (xs ys : List ℕ) → all_digits xs ≡ true → all_digits ys ≡ true → all_digits (xs ++ ys) ≡ true
all_digits-append [] ys p q = q
all_digits-append (x ∷ xs) ys p q =
    both (is_digit x) (all_digits (xs ++ ys)) (left (is_digit x) (all_digits xs) p) (all_digits-append xs ys (right (is_digit x) (all_digits xs) p) q)

-- the value goes on where it stood
pub value_from-append : (v : ℕ) (xs ys : List ℕ) → value_from v (xs ++ ys) ≡ value_from (value_from v xs) ys
value_from-append v [] ys = refl
value_from-append v (x ∷ xs) ys = value_from-append (v * 10 + (x - 48)) xs ys
