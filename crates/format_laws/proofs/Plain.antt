-- Words that begin no comment and end in no backslash.
use Rattle.std.proofs.Common.{◌≡◌, ℕ, ◌<◌, Bool, true, false, List, [], ◌∷◌, ◌++◌, length, refl, ◌∙◌, arith, IsTrue}
use Rattle.std.specs.Prelude.{◌==◌, ◌&&◌, ◌||◌}
use Rattle.std.proofs.lemmas.Bool.Decides.{nat_tests}
use Rattle.std.proofs.lemmas.List.Elements.{All-nil, All-cons, All-head, All-tail}
use Rattle.text_terms.specs.Lines.{is_comment, last_is}
use Rattle.text_terms.specs.Numbers.{is_digit, all_digits}
use Rattle.grid_number.specs.Bytes.{is_number_byte}
use Rattle.grid_number.proofs.Bytes.{AreNumberBytes}
use Rattle.format_laws.proofs.Bytes.{Above, IsWord}

-- a word, no comment, no line that goes on
pub record IsPlain (w : List ℕ) : Type 0 where
  pub word : IsWord w
  pub no_comment : is_comment w ≡ false
  pub no_end : last_is 92 w ≡ false

-- bytes of numbers are above a space
Above-number : (cs : List ℕ) → AreNumberBytes cs → Above 32 cs
Above-number [] all = tt
Above-number (c ∷ cs) all =
    let here = All-head (λ c. IsTrue (is_number_byte c)) c cs all in
    (grind (arith, nat_tests, here), Above-number cs (All-tail (λ c. IsTrue (is_number_byte c)) c cs all))

-- and no backslash
last_is-number : (cs : List ℕ) → AreNumberBytes cs → last_is 92 cs ≡ false
last_is-number [] all = refl
last_is-number (c ∷ []) all = let here = All-head (λ c. IsTrue (is_number_byte c)) c [] all in grind (arith, nat_tests, here)
last_is-number (c ∷ d ∷ cs) all = last_is-number (d ∷ cs) (All-tail (λ c. IsTrue (is_number_byte c)) c (d ∷ cs) all)

-- and no #
is_comment-number : (cs : List ℕ) → AreNumberBytes cs → is_comment cs ≡ false
is_comment-number [] all = refl
is_comment-number (c ∷ cs) all = let here = All-head (λ c. IsTrue (is_number_byte c)) c cs all in grind (arith, nat_tests, here)

-- some bytes of numbers are a plain word
pub IsPlain-number : (cs : List ℕ) → 0 < length cs → AreNumberBytes cs → IsPlain cs
IsPlain-number cs some all = record { word = record { some = some; marks = Above-number cs all }; no_comment = is_comment-number cs all; no_end = last_is-number cs all }

-- some letters are
pub IsPlain-letter : (c : ℕ) → 92 < c → IsPlain (c ∷ [])
IsPlain-letter c high = record {
  word = record { some = omega arith; marks = (omega (arith, high), tt) };
  no_comment = grind (arith, nat_tests, high);
  no_end = grind (arith, nat_tests, high);
}

-- the last byte of a text with a word at its end
pub last_is-append : (b : ℕ) (xs : List ℕ) (y : ℕ) (ys : List ℕ) → last_is b (xs ++ y ∷ ys) ≡ last_is b (y ∷ ys)
last_is-append b [] y ys = refl
last_is-append b (x ∷ []) y ys = refl
last_is-append b (x ∷ z ∷ xs) y ys = last_is-append b (z ∷ xs) y ys

pub last_is-word : (xs word : List ℕ) → IsPlain word → last_is 92 (xs ++ word) ≡ false
last_is-word xs [] plain = absurd (omega (arith, plain.word.some))
last_is-word xs (c ∷ cs) plain = last_is-append 92 xs c cs ∙ plain.no_end

-- digits are bytes of numbers
AreNumberBytes-digits : (ds : List ℕ) → all_digits ds ≡ true → AreNumberBytes ds
AreNumberBytes-digits [] digits = All-nil (λ c. IsTrue (is_number_byte c))
AreNumberBytes-digits (d ∷ ds) digits =
    All-cons (λ c. IsTrue (is_number_byte c)) d ds (first (is_digit d) (all_digits ds) digits)
    (AreNumberBytes-digits ds (second (is_digit d) (all_digits ds) digits)) where
      first : (a b : Bool) → (a && b) ≡ true → (a || (d == 45) || (d == 46)) ≡ true
      first a b e = grind arith

      second : (a b : Bool) → (a && b) ≡ true → b ≡ true
      second a b e = grind arith

-- so some digits are a plain word
pub IsPlain-digits : (ds : List ℕ) → 0 < length ds → all_digits ds ≡ true → IsPlain ds
IsPlain-digits ds some digits = IsPlain-number ds some (AreNumberBytes-digits ds digits)
