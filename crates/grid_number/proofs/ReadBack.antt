-- A written number reads back.
use Rattle.std.proofs.Common.{◌≡◌, ℕ, suc, ◌+◌, ◌*◌, ◌/◌, ◌%◌, ◌^◌, ◌-◌, ◌<◌, ◌&&◌, ◌==◌, if◌then◌else◌, cond, Bool, List, [], ◌∷◌, ◌++◌, true, false, length, decimal, refl, ap, ◌∙◌, arith, Option, Some, None, option_map, ℤ, pos, negsuc, neg_ℤ, ◌+ℤ◌, ◌-ℤ◌, int_le, int_lt, nat_abs, codes, append-nil}
use Rattle.std.proofs.lemmas.Int.{ints}
use Rattle.std.proofs.lemmas.Bool.Decides.{nat_tests}
use Rattle.std.proofs.lemmas.Fmt.{decimal_nonempty}
use Rattle.std.proofs.Math.Nat.{div-le_self, mod-mod}
use Rattle.std.proofs.lemmas.Nat.{div-add-mod'}
use Rattle.text_terms.specs.Numbers.{Parts, all_digits, value_from, digits_value, cut_at, is_e, mantissa_ok, scaled, size_of, value_of, grid_number}
use Rattle.text_terms.specs.Written.{last_digits, written_rest, written_size, written}
use Rattle.grid_number.specs.Reading.{parts_from, parts_after, is_point}
use Rattle.grid_number.proofs.Bytes.{all_digits-decimal, all_digits-kept_digits}
use Rattle.grid_number.proofs.Cuts.{cut_at-digits, cut_at-only_digits, is_digits-some, signed-digits, digit_is_no_e, digit_is_no_point}
use Rattle.grid_number.proofs.KeptDigits.{kept_digits, length-last_digits}
use Rattle.text_terms.proofs.Digits.{value_from-append}
use Rattle.grid_number.proofs.Values.{digits_value-decimal, value_from-last_digits, IsTrimmed-without_zeros}

-- a value that is raised
pub scaled-pos : (m j : ℕ) → scaled m (pos j) ≡ m * 10 ^ j
scaled-pos m j =
    let there : int_le (pos 0) (pos j) ≡ true = grind (arith, nat_tests) in
    ap (λ (b : Bool). cond b (m * 10 ^ j) ((m + 5 * 10 ^ (j - 1)) / 10 ^ j)) there

-- the power of 10 of digits whose last r stand after the point
raised : (k r j : ℕ) → r + j ≡ k → (pos 0 -ℤ pos r) +ℤ pos k ≡ pos j
raised k r j places = omega (arith, ints)

-- digits alone
parts-whole : (negative : Bool) (ds : List ℕ) → 0 < length ds → all_digits ds ≡ true →
    parts_after (negative, ds ++ []) ≡ Some (record
    { negative = negative; whole = ds; fraction = []; exponent = pos 0 })
parts-whole negative ds some digits =
    ap (λ (t : List ℕ). parts_after (negative, t)) (append-nil ds)
    ∙ ap (λ (e : List ℕ × Option (List ℕ)). parts_from negative (cut_at is_point e.0) e.1)
    (cut_at-only_digits is_e digit_is_no_e ds digits)
    ∙ ap (λ (m : List ℕ × Option (List ℕ)). parts_from negative m None)
    (cut_at-only_digits is_point digit_is_no_point ds digits)
    ∙ ap (λ (b : Bool). cond (b && true) (Some
    (record { negative = negative; whole = ds; fraction = []; exponent = pos 0 })) None)
    (is_digits-some ds some digits)

-- digits before and after a point
mantissa_ok-point : (ds fs : List ℕ) → 0 < length ds → all_digits ds ≡ true → all_digits fs ≡ true →
    mantissa_ok ds (Some fs) ≡ true
mantissa_ok-point ds fs some digits others = grind (arith, nat_tests)

-- digits, a point and digits
parts-point : (negative : Bool) (ds fs : List ℕ) → 0 < length ds → all_digits ds ≡ true → all_digits fs ≡ true →
    parts_after (negative, ds ++ 46 ∷ fs) ≡ Some (record
    { negative = negative; whole = ds; fraction = fs; exponent = pos 0 })
parts-point negative ds fs some digits others =
    ap (λ (e : List ℕ × Option (List ℕ)). parts_from negative (cut_at is_point e.0) e.1)
    (cut_at-digits is_e digit_is_no_e ds (46 ∷ fs) digits)
    ∙ ap (λ (e : List ℕ × Option (List ℕ)). parts_from negative (cut_at is_point (ds ++ 46 ∷ e.0)) e.1)
    (cut_at-only_digits is_e digit_is_no_e fs others)
    ∙ ap (λ (m : List ℕ × Option (List ℕ)). parts_from negative m None)
    (cut_at-digits is_point digit_is_no_point ds (46 ∷ fs) digits)
    ∙ ap (λ (whole : List ℕ). parts_from negative (whole, Some fs) None) (append-nil ds)
    ∙ ap (λ (b : Bool). cond (b && true) (Some
    (record { negative = negative; whole = ds; fraction = fs; exponent = pos 0 })) None)
    (mantissa_ok-point ds fs some digits others)

-- the size of digits without an exponent, the last of them after the point
size-raised : (k j m : ℕ) (n : Parts) → n.exponent ≡ pos 0 → length n.fraction + j ≡ k →
    digits_value (n.whole ++ n.fraction) ≡ m → size_of k n ≡ m * 10 ^ j
size-raised k j m n none places value =
    ap (λ (e : ℤ). scaled (digits_value (n.whole ++ n.fraction)) ((e -ℤ pos (length n.fraction)) +ℤ pos k)) none
    ∙ ap (λ (t : ℤ). scaled (digits_value (n.whole ++ n.fraction)) t) (raised k (length n.fraction) j places)
    ∙ ap (λ (v : ℕ). scaled v (pos j)) value ∙ scaled-pos m j

-- the size of a whole part and of a rest's digits
size-written : (negative : Bool) (k n : ℕ) → n < 2 ^ 64 → size_of k
    (record {
      negative = negative;
      whole = decimal (n / 10 ^ k);
      fraction = kept_digits k (n % 10 ^ k);
      exponent = pos
          0;
    }) ≡ n
unfolding kept_digits
size-written negative k n small =
    let t = IsTrimmed-without_zeros (last_digits k (n % 10 ^ k)) in
    let w = n / 10 ^ k in
    let value : digits_value (decimal w ++ kept_digits k (n % 10 ^ k)) ≡ value_from w (kept_digits k (n % 10 ^ k)) =
    value_from-append 0 (decimal w) (kept_digits k (n % 10 ^ k))
    ∙ ap (λ (v : ℕ). value_from v (kept_digits k (n % 10 ^ k)))
    (digits_value-decimal w (omega (arith, div-le_self n (10 ^ k)))) in
    size-raised k t.0 (value_from w (kept_digits k (n % 10 ^ k)))
    (record { negative = negative; whole = decimal w; fraction = kept_digits k (n % 10 ^ k); exponent = pos 0 })
    refl (t.1.places ∙ length-last_digits k (n % 10 ^ k)) value
    ∙ t.1.value w ∙ value_from-last_digits k w (n % 10 ^ k)
    ∙ ap (λ (r : ℕ). w * 10 ^ k + r) (mod-mod n (10 ^ k)) ∙ div-add-mod' n (10 ^ k)

-- the size of a whole part, where there is no rest
size-whole : (negative : Bool) (k n : ℕ) → n < 2 ^ 64 → n % 10 ^ k ≡ 0 →
    size_of k (record { negative = negative; whole = decimal (n / 10 ^ k); fraction = []; exponent = pos 0 }) ≡ n
size-whole negative k n small none =
    let w = n / 10 ^ k in
    let value : digits_value (decimal w ++ []) ≡ w = ap (λ (ds : List ℕ). digits_value ds) (append-nil (decimal w))
    ∙ digits_value-decimal w (omega (arith, div-le_self n (10 ^ k))) in
    size-raised k k w (record { negative = negative; whole = decimal w; fraction = []; exponent = pos 0 }) refl
    (omega arith) value
    ∙ omega (arith, none, div-add-mod' n (10 ^ k))

-- with a rest or without
read-choice : (negative : Bool) (k n : ℕ) → n < 2 ^ 64 → (b : Bool) → (n % 10 ^ k == 0) ≡ b →
    option_map (value_of k) (parts_after
    (negative, decimal (n / 10 ^ k) ++ (if b then [] else codes "." ++ kept_digits k (n % 10 ^ k)))) ≡ Some
    (cond negative (neg_ℤ (pos n)) (pos n))
read-choice negative k n small true test =
    let w = n / 10 ^ k in
    let below : w < 2 ^ 64 = omega (arith, div-le_self n (10 ^ k)) in
    ap (option_map (value_of k)) (parts-whole negative (decimal w) (decimal_nonempty w below)
    (all_digits-decimal w below))
    ∙ ap (λ (size : ℕ). Some (cond negative (neg_ℤ (pos size)) (pos size)))
    (size-whole negative k n small (grind (arith, nat_tests)))
read-choice negative k n small false test =
    let w = n / 10 ^ k in
    let below : w < 2 ^ 64 = omega (arith, div-le_self n (10 ^ k)) in
    ap (option_map (value_of k)) (parts-point negative (decimal w) (kept_digits k (n % 10 ^ k))
    (decimal_nonempty w below) (all_digits-decimal w below) (all_digits-kept_digits k (n % 10 ^ k)))
    ∙ ap (λ (size : ℕ). Some (cond negative (neg_ℤ (pos size)) (pos size))) (size-written negative k n small)

-- a written size reads back under either sign
read-size : (negative : Bool) (k n : ℕ) → n < 2 ^ 64 → option_map (value_of k)
    (parts_after (negative, written_size k n)) ≡ Some (cond negative (neg_ℤ (pos n)) (pos n))
unfolding kept_digits
read-size negative k n small = read-choice negative k n small (n % 10 ^ k == 0) refl

-- a written number reads back
pub grid_number-written : (k : ℕ) (z : ℤ) → nat_abs z < 2 ^ 64 → grid_number k (written k z) ≡ Some z
grid_number-written k (pos n) small =
    let w = n / 10 ^ k in
    let below : w < 2 ^ 64 = omega (arith, div-le_self n (10 ^ k)) in
    let above : int_lt (pos n) (pos 0) ≡ false = grind (arith, nat_tests) in
    ap (λ (b : Bool). grid_number k (if b then codes "-" ++ written_size k n else written_size k n)) above
    ∙ ap (λ (s : Bool × List ℕ). option_map (value_of k) (parts_after s))
    (signed-digits (decimal w) (written_rest k (n % 10 ^ k)) (decimal_nonempty w below)
    (all_digits-decimal w below))
    ∙ read-size false k n small
grid_number-written k (negsuc n) small = read-size true k (suc n) small
