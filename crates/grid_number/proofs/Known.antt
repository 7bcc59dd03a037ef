-- An exponent as far as a word holds it gives the size as far as a word holds it.
use Rattle.std.proofs.Common.{◌≡◌, ℕ, suc, ◌+◌, ◌*◌, ◌^◌, ◌-◌, ◌<◌, ◌≤◌, if◌then◌else◌, Bool, List, ◌++◌, true, false, length, refl, sym, ap, ◌∙◌, arith, length-append, inl, inr, ℤ, pos, negsuc, neg_ℤ, ◌+ℤ◌, ◌-ℤ◌, int_lt, nat_abs, Option, Some, None, option_map, nat_le}
use Rattle.std.proofs.lemmas.Int.{ints}
use Rattle.std.proofs.lemmas.Bool.{cases_lt}
use Rattle.std.proofs.lemmas.Bool.Decides.{nat_tests}
use Rattle.text_terms.specs.Numbers.{Parts, all_digits, digits_value, scaled, size_of, value_of, is_on_grid}
use Rattle.grid_number.specs.Reading.{parts_with, saturated, saturated_size, saturated_parts, with_sign}
use Rattle.text_terms.proofs.Digits.{all_digits-append}
use Rattle.grid_number.proofs.Dropped.{scaled-nothing}
use Rattle.grid_number.proofs.ReadBack.{scaled-pos}
use Rattle.grid_number.proofs.Saturated.{saturated-high, nat_abs-neg}

-- far up all sizes are one
far_up : (m r k n : ℕ) → 20 + r ≤ n → saturated (scaled m ((pos n -ℤ pos r) +ℤ pos k)) ≡ saturated (m * 10 ^ 20)
far_up m r k n far =
    let up : (pos n -ℤ pos r) +ℤ pos k ≡ pos (n - r + k) = omega (arith, ints) in
    ap (λ (t : ℤ). saturated (scaled m t)) up ∙ ap saturated (scaled-pos m (n - r + k))
    ∙ saturated-high m (n - r + k) (omega arith)

-- far down too
far_down : (ds : List ℕ) (r k n : ℕ) → all_digits ds ≡ true → length ds + k < n + r →
    saturated (scaled (digits_value ds) ((neg_ℤ (pos n) -ℤ pos r) +ℤ pos k)) ≡ 0
far_down ds r k n digits far =
    let down : (neg_ℤ (pos n) -ℤ pos r) +ℤ pos k ≡ neg_ℤ (pos (n + r - k)) = omega (arith, ints) in
    ap (λ (t : ℤ). saturated (scaled (digits_value ds) t)) down ∙ scaled-nothing ds (n + r - k) digits (omega arith)

-- an exponent that is not below 0
above : (n : ℕ) → saturated_size (pos n) ≡ pos (saturated n)
above n =
    let sign : int_lt (pos n) (pos 0) ≡ false = grind (arith, nat_tests) in
    ap (λ (b : Bool). if b then neg_ℤ (pos (saturated n)) else pos (saturated n)) sign

-- the size under either exponent
same_size : (ds : List ℕ) (r k : ℕ) (e : ℤ) → all_digits ds ≡ true → length ds < 2 ^ 63 → r ≤ length ds → k ≤ 6 →
    saturated (scaled (digits_value ds) ((saturated_size e -ℤ pos r) +ℤ pos k)) ≡ saturated
    (scaled (digits_value ds) ((e -ℤ pos r) +ℤ pos k))
same_size ds r k (pos n) digits short inside few = elim (cases_lt n (10 * 2 ^ 60)) [
  | inl low ↦
      let same : saturated n ≡ n = omega arith in
      ap (λ (e : ℤ). saturated (scaled (digits_value ds) ((e -ℤ pos r) +ℤ pos k))) (above n)
      ∙ ap (λ (s : ℕ). saturated (scaled (digits_value ds) ((pos s -ℤ pos r) +ℤ pos k))) same
  | inr high ↦
      let full : saturated n ≡ 10 * 2 ^ 60 = omega arith in
      ap (λ (e : ℤ). saturated (scaled (digits_value ds) ((e -ℤ pos r) +ℤ pos k))) (above n)
      ∙ ap (λ (s : ℕ). saturated (scaled (digits_value ds) ((pos s -ℤ pos r) +ℤ pos k))) full
      ∙ far_up (digits_value ds) r k (10 * 2 ^ 60) (omega arith) ∙ sym (far_up (digits_value ds) r k n (omega arith))
]
same_size ds r k (negsuc n) digits short inside few = elim (cases_lt n (10 * 2 ^ 60)) [
  | inl low ↦
      let same : saturated (suc n) ≡ suc n = omega arith in
      ap (λ (s : ℕ). saturated (scaled (digits_value ds) ((neg_ℤ (pos s) -ℤ pos r) +ℤ pos k))) same
  | inr high ↦
      let full : saturated (suc n) ≡ 10 * 2 ^ 60 = omega arith in
      ap (λ (s : ℕ). saturated (scaled (digits_value ds) ((neg_ℤ (pos s) -ℤ pos r) +ℤ pos k))) full
      ∙ far_down ds r k (10 * 2 ^ 60) digits (omega arith) ∙ sym (far_down ds r k (suc n) digits (omega arith))
]

-- parts with that sign, and their size as far as a word holds it
pub record AreKnown (k : ℕ) (parts : Option Parts) (negative : Bool) (s : ℕ) : Type 0 where
  pub all : Parts
  pub are : parts ≡ Some all
  pub sign : all.negative ≡ negative
  pub size : s ≡ saturated (size_of k all)

-- the size under the known exponent is that of the text's parts
pub AreKnown-saturated : (k : ℕ) (parts : Option Parts) (negative : Bool) (ds fs : List ℕ) (e : ℤ) (s : ℕ) → k ≤ 6 →
    option_map saturated_parts parts ≡ Some (parts_with negative ds fs e) →
    all_digits ds ≡ true → all_digits fs ≡ true → length ds + length fs < 2 ^ 63 →
    s ≡ saturated (size_of k (parts_with negative ds fs e)) → AreKnown k parts negative s
AreKnown-saturated k None negative ds fs e s few known digits more short size = absurd (cc)
AreKnown-saturated k (Some p) negative ds fs e s few known digits more short size =
    let same : saturated_parts p ≡ parts_with negative ds fs e = cc in
    let whole : p.whole ≡ ds = ap (λ (n : Parts). n.whole) same in
    let fraction : p.fraction ≡ fs = ap (λ (n : Parts). n.fraction) same in
    let all : all_digits (p.whole ++ p.fraction) ≡ true = all_digits-append p.whole p.fraction
    (ap all_digits whole ∙ digits) (ap all_digits fraction ∙ more) in
    let long : length (p.whole ++ p.fraction) ≡ length ds + length fs = length-append p.whole p.fraction
    ∙ ap (λ (l : List ℕ). length l + length p.fraction) whole
    ∙ ap (λ (l : List ℕ). length ds + length l) fraction in
    let part : length p.fraction ≡ length fs = ap (λ (l : List ℕ). length l) fraction in
    record {
      all = p;
      are = refl;
      sign = ap (λ (n : Parts). n.negative) same;
      size = size ∙ sym (ap (λ (n : Parts). saturated (size_of k n)) same)
          ∙ same_size (p.whole ++ p.fraction) (length p.fraction) k p.exponent all (omega (arith, long))
          (omega (arith, long, part)) few;
    }

-- the value of known parts
pub value-known : (k : ℕ) (parts : Option Parts) (negative : Bool) (s : ℕ) → (known : AreKnown k parts negative s) →
    option_map (value_of k) parts ≡ Some (with_sign negative (size_of k known.all))
value-known k parts negative s known =
    ap (option_map (value_of k)) known.are ∙ ap (λ (b : Bool). Some (with_sign b (size_of k known.all))) known.sign

-- the size of a value under a sign
nat_abs-with_sign : (negative : Bool) (n : ℕ) → nat_abs (with_sign negative n) ≡ n
nat_abs-with_sign true n = nat_abs-neg n
nat_abs-with_sign false n = refl

-- a value on the grid, and off it
pub on_grid-size : (negative : Bool) (n : ℕ) → n ≤ 2 ^ 30 → is_on_grid (with_sign negative n) ≡ true
on_grid-size negative n inside =
    let test : nat_le n (2 ^ 30) ≡ true = grind (arith, nat_tests) in
    ap (λ (m : ℕ). nat_le m (2 ^ 30)) (nat_abs-with_sign negative n) ∙ test

pub off_grid-size : (negative : Bool) (n : ℕ) → 2 ^ 30 < n → is_on_grid (with_sign negative n) ≡ false
off_grid-size negative n outside =
    let test : nat_le n (2 ^ 30) ≡ false = grind (arith, nat_tests) in
    ap (λ (m : ℕ). nat_le m (2 ^ 30)) (nat_abs-with_sign negative n) ∙ test
