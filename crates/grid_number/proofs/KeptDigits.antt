-- The last digits of a number without trailing zeros.
use Rattle.std.proofs.Common.{◌≡◌, ◌≢◌, ℕ, zero, suc, ◌+◌, ◌*◌, ◌/◌, ◌%◌, ◌^◌, ◌-◌, ◌<◌, ◌≤◌, ◌&&◌, ◌==◌, if◌then◌else◌, Bool, List, [], ◌∷◌, ◌++◌, true, false, length, decimal, refl, sym, ap, ◌∙◌, arith, length-append}
use Rattle.std.proofs.Math.Nat.{pow-suc, pow-succ', mul-div_cancel, mul-mod_left, pow-le-pow_right}
use Rattle.std.proofs.lemmas.Fmt.{decimal_digit, decimal_step}
use Rattle.text_terms.specs.Written.{last_digits, without_zeros, is_empty}

-- the last k digits of n without the zeros at their end
unfoldable pub kept_digits : ℕ → ℕ → List ℕ
kept_digits k n = without_zeros (last_digits k n)

-- what they are, where the name does not unfold
pub kept_digits-is : (k n : ℕ) → kept_digits k n ≡ without_zeros (last_digits k n)
unfolding kept_digits
kept_digits-is k n = refl

-- a power of ten is not 0
pub ten_pow_pos : (k : ℕ) → 0 < 10 ^ k
ten_pow_pos zero = omega arith
ten_pow_pos (suc k) = omega (arith, pow-suc 10 k, ten_pow_pos k)

-- a zero at the end goes
pub without_zeros-zero : (ds : List ℕ) → without_zeros (ds ++ 48 ∷ []) ≡ without_zeros ds
without_zeros-zero [] = refl
without_zeros-zero (c ∷ cs) = ap (λ (ds : List ℕ). if (c == 48) && is_empty ds then [] else c ∷ ds)
    (without_zeros-zero cs)

-- a zero more at the end changes nothing
pub kept_digits-shift : (k n : ℕ) → kept_digits (suc k) (n * 10) ≡ kept_digits k n
unfolding kept_digits
kept_digits-shift k n =
    let q : n * 10 / 10 ≡ n = mul-div_cancel n (omega arith) in
    let r : n * 10 % 10 ≡ 0 = mul-mod_left n 10 in
    ap (λ (m : ℕ). without_zeros (last_digits k m ++ (48 + n * 10 % 10) ∷ [])) q
    ∙ ap (λ (d : ℕ). without_zeros (last_digits k n ++ (48 + d) ∷ [])) r
    ∙ without_zeros-zero (last_digits k n)

-- what is left without a 0 at the end
pub record IsShorter (k n : ℕ) : Type 0 where
  pub some : 0 < n / 10
  pub below : n / 10 < 10 ^ (k - 1)
  pub same : kept_digits (k - 1) (n / 10) ≡ kept_digits k n

pub shorter : (k n : ℕ) → 0 < n → n < 10 ^ k → n % 10 ≡ 0 → IsShorter k n
shorter zero n some small digit = absurd (omega arith)
shorter (suc k) n some small digit =
    let p : 10 ^ suc k ≡ 10 * 10 ^ k = pow-succ' 10 k in
    let d : suc k - 1 ≡ k = omega arith in
    let q : 10 ^ (suc k - 1) ≡ 10 ^ k = ap (λ (j : ℕ). 10 ^ j) d in
    let e : n / 10 * 10 ≡ n = omega arith in
    record {
      some = omega arith;
      below = omega (arith, p, q);
      same = ap (λ (j : ℕ). kept_digits j (n / 10)) d ∙ sym (kept_digits-shift k (n / 10))
          ∙ ap (λ (m : ℕ). kept_digits (suc k) m) e;
    }

-- a digit with others behind it that stay is not dropped
dropped_not : (b : Bool) (d : ℕ) (ds : List ℕ) → (if b && false then [] else d ∷ ds) ≡ d ∷ ds
dropped_not true d ds = refl
dropped_not false d ds = refl

-- a list with a last element is not empty
keeps : (ds : List ℕ) (c : ℕ) → is_empty (ds ++ c ∷ []) ≡ false
keeps [] c = refl
keeps (d ∷ ds) c = refl

-- any other digit at the end stays, and all before it
without_zeros-other : (ds : List ℕ) (c : ℕ) → (c == 48) ≡ false → without_zeros (ds ++ c ∷ []) ≡ ds ++ c ∷ []
without_zeros-other [] c other = ap (λ (b : Bool). if b && true then [] else c ∷ []) other
without_zeros-other (d ∷ ds) c other =
    let rest = without_zeros-other ds c other in
    let some : is_empty (without_zeros (ds ++ c ∷ [])) ≡ false = ap (λ (l : List ℕ). is_empty l) rest ∙ keeps ds c in
    ap (λ (b : Bool). if (d == 48) && b then [] else d ∷ without_zeros (ds ++ c ∷ [])) some
    ∙ dropped_not (d == 48) d (without_zeros (ds ++ c ∷ []))
    ∙ ap (λ (l : List ℕ). d ∷ l) rest

-- where the last digit is not 0, all are kept
pub kept_digits-all : (k n : ℕ) → 0 < n → n < 10 ^ k → n % 10 ≢ 0 → kept_digits k n ≡ last_digits k n
unfolding kept_digits
kept_digits-all zero n some small digit = absurd (omega arith)
kept_digits-all (suc k) n some small digit = without_zeros-other (last_digits k (n / 10)) (48 + n % 10) (grind arith)

-- a number below 10 ^ k behind a 1 is that 1 and the number's last k digits
pub decimal-behind_one : (k n : ℕ) → k ≤ 6 → n < 10 ^ k → decimal (10 ^ k + n) ≡ 49 ∷ last_digits k n
decimal-behind_one zero n few small =
    let e : 10 ^ 0 + n ≡ 1 = omega arith in
    ap (λ (m : ℕ). decimal m) e ∙ decimal_digit 1 (omega arith)
decimal-behind_one (suc k) n few small =
    let p : 10 ^ suc k ≡ 10 * 10 ^ k = pow-succ' 10 k in
    let most : 10 ^ suc k ≤ 10 ^ 6 = pow-le-pow_right (omega arith) few in
    let some = ten_pow_pos k in
    let q : (10 ^ suc k + n) / 10 ≡ 10 ^ k + n / 10 = omega (arith, p) in
    let r : (10 ^ suc k + n) % 10 ≡ n % 10 = omega (arith, p) in
    decimal_step (10 ^ suc k + n) (omega (arith, p, some)) (omega (arith, most))
    ∙ ap (λ (m : ℕ). decimal m ++ (48 + (10 ^ suc k + n) % 10) ∷ []) q
    ∙ ap (λ (d : ℕ). decimal (10 ^ k + n / 10) ++ (48 + d) ∷ []) r
    ∙ ap (λ (ds : List ℕ). ds ++ (48 + n % 10) ∷ []) (decimal-behind_one k (n / 10) (omega arith) (omega (arith, p)))

at_most : (b : Bool) (c : ℕ) (ds : List ℕ) (m : ℕ) → length ds ≤ m → length (if b then [] else c ∷ ds) ≤ suc m
at_most true c ds m h = omega arith
at_most false c ds m h = omega arith

pub length-without_zeros : (ds : List ℕ) → length (without_zeros ds) ≤ length ds
length-without_zeros [] = omega arith
length-without_zeros (c ∷ cs) = at_most ((c == 48) && is_empty (without_zeros cs)) c (without_zeros cs) (length cs)
    (length-without_zeros cs)

pub length-last_digits : (k n : ℕ) → length (last_digits k n) ≡ k
length-last_digits zero n = refl
length-last_digits (suc k) n = omega (
  arith,
  length-append (last_digits k (n / 10)) ((48 + n % 10) ∷ []),
  length-last_digits k (n / 10),
)

pub length-kept_digits : (k n : ℕ) → length (kept_digits k n) ≤ k
unfolding kept_digits
length-kept_digits k n = omega (arith, length-without_zeros (last_digits k n), length-last_digits k n)
