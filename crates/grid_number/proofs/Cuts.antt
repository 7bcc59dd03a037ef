-- Texts of numbers, cut.
use Rattle.std.proofs.Common.{◌≡◌, ℕ, ◌<◌, ◌&&◌, ◌==◌, cond, Bool, List, [], ◌∷◌, ◌++◌, true, false, length, refl, ap, ◌∙◌, arith, Option, Some, None}
use Rattle.std.proofs.lemmas.Bool.Decides.{nat_tests}
use Rattle.text_terms.specs.Numbers.{is_digit, all_digits, cut_at, signed, is_e, is_digits}
use Rattle.grid_number.specs.Reading.{begins_digit}
use Rattle.text_terms.proofs.Digits.{left, right}

-- a digit is no sign, no `e` and no point
pub digit_is_no_e : (d : ℕ) → is_digit d ≡ true → is_e d ≡ false
digit_is_no_e d digit = grind (arith, nat_tests)

pub digit_is_no_point : (d : ℕ) → is_digit d ≡ true → (d == 46) ≡ false
digit_is_no_point d digit = grind (arith, nat_tests)

pub digit_is_no_minus : (d : ℕ) → is_digit d ≡ true → (d == 45) ≡ false
digit_is_no_minus d digit = grind (arith, nat_tests)

pub digit_is_no_plus : (d : ℕ) → is_digit d ≡ true → (d == 43) ≡ false
digit_is_no_plus d digit = grind (arith, nat_tests)

pub and-false : (b : Bool) → (b && false) ≡ false
and-false true = refl
and-false false = refl

-- digits at the front stay whole
pub cut_at-digits : (p : ℕ → Bool) → ((d : ℕ) → is_digit d ≡ true → p d ≡ false) → (ds rest : List ℕ) →
    all_digits ds ≡ true → cut_at p (ds ++ rest) ≡ (ds ++ (cut_at p rest).0, (cut_at p rest).1)
cut_at-digits p passes [] rest digits = refl
cut_at-digits p passes (d ∷ ds) rest digits =
    let r = cut_at p (ds ++ rest) in
    ap (λ (b : Bool). cond b ([], Some (ds ++ rest)) (d ∷ r.0, r.1))
    (passes d (left (is_digit d) (all_digits ds) digits))
    ∙ ap (λ (x : List ℕ × Option (List ℕ)). (d ∷ x.0, x.1)) (cut_at-digits p passes ds rest
    (right (is_digit d) (all_digits ds) digits))

-- a text that begins with a digit has no sign
pub signed-digits : (ds rest : List ℕ) → 0 < length ds → all_digits ds ≡ true →
    signed (ds ++ rest) ≡ (false, ds ++ rest)
signed-digits [] rest some digits = absurd (omega arith)
signed-digits (d ∷ ds) rest some digits =
    let digit = left (is_digit d) (all_digits ds) digits in
    ap (λ (b : Bool). cond b (true, ds ++ rest) (cond (d == 43) (false, ds ++ rest) (false, d ∷ (ds ++ rest))))
    (digit_is_no_minus d digit)
    ∙ ap (λ (b : Bool). cond b (false, ds ++ rest) (false, d ∷ (ds ++ rest))) (digit_is_no_plus d digit)

-- and nothing but digits has no cut
pub cut_at-only_digits : (p : ℕ → Bool) → ((d : ℕ) → is_digit d ≡ true → p d ≡ false) → (ds : List ℕ) →
    all_digits ds ≡ true → cut_at p ds ≡ (ds, None)
cut_at-only_digits p passes [] digits = refl
cut_at-only_digits p passes (d ∷ ds) digits =
    let r = cut_at p ds in
    ap (λ (b : Bool). cond b ([], Some ds) (d ∷ r.0, r.1)) (passes d (left (is_digit d) (all_digits ds) digits))
    ∙ ap (λ (x : List ℕ × Option (List ℕ)). (d ∷ x.0, x.1)) (cut_at-only_digits p passes ds
    (right (is_digit d) (all_digits ds) digits))

-- some digits
pub is_digits-some : (ds : List ℕ) → 0 < length ds → all_digits ds ≡ true → is_digits ds ≡ true
is_digits-some [] some digits = absurd (omega arith)
is_digits-some (d ∷ ds) some digits = digits

-- a text that goes on with something else is no digits
pub all_digits-broken : (ds rest : List ℕ) → 0 < length rest → begins_digit rest ≡ false →
    all_digits (ds ++ rest) ≡ false
all_digits-broken [] [] some ends = absurd (omega arith)
all_digits-broken [] (c ∷ cs) some ends = ap (λ (b : Bool). b && all_digits cs) ends
all_digits-broken (d ∷ ds) rest some ends = ap (λ (b : Bool). is_digit d && b) (all_digits-broken ds rest some ends)
    ∙ and-false (is_digit d)

pub is_digits-broken : (ds rest : List ℕ) → 0 < length rest → begins_digit rest ≡ false →
    is_digits (ds ++ rest) ≡ false
is_digits-broken [] [] some ends = absurd (omega arith)
is_digits-broken [] (c ∷ cs) some ends = all_digits-broken [] (c ∷ cs) some ends
is_digits-broken (d ∷ ds) rest some ends = all_digits-broken (d ∷ ds) rest some ends
