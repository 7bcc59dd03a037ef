-- The number that digits spell, digit after digit, as far as it counts.
use Rattle.std.proofs.Common.{◌≡◌, ℕ, suc, ◌+◌, ◌*◌, ◌-◌, ◌<◌, ◌≤◌, min, List, [], ◌∷◌, arith, length, drop, get_or, ap, ◌∙◌, sym, ⊎_elim, add-one, ◌^◌, take}
use Rattle.std.proofs.lemmas.Bool.{cases_lt}
use Rattle.std.proofs.lemmas.List.{take_more}
use Rattle.std.proofs.Math.Seq.{drop-cons}
use Rattle.std.specs.Prelude.{Bool, true, ◌&&◌}
use Rattle.text_terms.proofs.Digits.{value_from-append}
use Rattle.std.proofs.Math.Nat.{pow-suc}
use Rattle.text_terms.specs.Numbers.{is_digit, all_digits, value_from}

-- more digits never make the number smaller
value_from-le : (v : ℕ) (cs : List ℕ) → v ≤ value_from v cs
value_from-le v [] = omega arith
value_from-le v (c ∷ cs) = omega (arith, value_from-le (v * 10 + (c - 48)) cs)

-- past n both numbers are n
both_full : (n v w : ℕ) (cs : List ℕ) → n ≤ v → n ≤ w → min (value_from v cs) n ≡ min (value_from w cs) n
both_full n v w cs p q = omega (arith, value_from-le v cs, value_from-le w cs)

-- what goes past n does not count
value_from-full : (n v : ℕ) (cs : List ℕ) → min (value_from (min v n) cs) n ≡ min (value_from v cs) n
value_from-full n v cs = ⊎_elim
    (λ less. let same : min v n ≡ v = omega arith in ap (λ (w : ℕ). min (value_from w cs) n) same)
    (λ more. both_full n (min v n) v cs (omega arith) (omega arith))
    (cases_lt v n)

-- one more digit
pub value_from-step : (n v i : ℕ) (word : List ℕ) → i < length word →
    min (value_from v (drop i word)) n ≡ min (value_from (min (v * 10 + (get_or word i 0 - 48)) n) (drop (suc i) word)) n
value_from-step n v i word inside =
    ap (λ (cs : List ℕ). min (value_from v cs) n) (drop-cons word i 0 inside)
    ∙ sym (value_from-full n (v * 10 + (get_or word i 0 - 48)) (drop (suc i) word))

-- the bytes from a digit on are digits where those after it are
pub all_digits-step : (i : ℕ) (word : List ℕ) → i < length word → is_digit (get_or word i 0) ≡ true → all_digits (drop i word) ≡ all_digits (drop (suc i) word)
all_digits-step i word inside digit =
    ap all_digits (drop-cons word i 0 inside) ∙ ap (λ (b : Bool). b && all_digits (drop (suc i) word)) digit

-- what the digits at the front spell with one more
pub spelled-step : (before value i : ℕ) (text : List ℕ) → i < length text → value ≡ value_from before (take i text) →
    value * 10 + (get_or text i 0 - 48) ≡ value_from before (take (i + 1) text)
spelled-step before value i text inside spelled =
    ap (λ (v : ℕ). v * 10 + (get_or text i 0 - 48)) spelled
    ∙ sym (ap (value_from before) (take_more text i 0 inside) ∙ value_from-append before (take i text) (get_or text i 0 ∷ []))

-- ten times a power of 10
next_power : (i : ℕ) → 10 ^ (i + 1) ≡ 10 ^ i * 10
next_power i = ap (λ (m : ℕ). 10 ^ m) (add-one i) ∙ pow-suc 10 i

-- a bound for it
pub below-step : (value i d : ℕ) → value < 1073741825 * 10 ^ i → d < 10 → value * 10 + d < 1073741825 * 10 ^ (i + 1)
below-step value i d below small = omega (arith, below, small, next_power i)
