-- A decimal number as it is read: its parts, and sizes as far as a word holds them.
use Rattle.std.specs.Prelude.{◌≡◌, ℕ, ◌*◌, ◌^◌, min, ℤ, pos, neg_ℤ, List, [], ◌∷◌, ◌++◌, false, Bool, cond, if◌then◌else◌, ◌&&◌, ◌==◌, nat_lt, int_lt, nat_abs, Option, Some, None, MatchBool, IsSomeAnd, IsFalse}
use Rattle.text_terms.specs.Numbers.{Parts, is_digit, is_digits, digits_value, cut_at, is_e, mantissa_ok, exponent_ok, exponent_of, or_empty, is_on_grid}

-- the parts of a mantissa, cut at its point, and an exponent
abbrev pub parts_from : Bool → List ℕ × Option (List ℕ) → Option (List ℕ) → Option Parts
parts_from negative m x = cond (mantissa_ok m.0 m.1 && exponent_ok x) (Some (record { negative = negative; whole = m.0; fraction = or_empty m.1; exponent = exponent_of x })) None

-- the point of a number
abbrev pub is_point : ℕ → Bool
is_point c = c == 46

-- the parts of what stands after a sign
abbrev pub parts_after : Bool × List ℕ → Option Parts
parts_after s = let e = cut_at is_e s.1 in parts_from s.0 (cut_at is_point e.0) e.1

-- whether a digit comes next
abbrev pub begins_digit : List ℕ → Bool
begins_digit [] = false
begins_digit (c ∷ cs) = is_digit c

-- digits after a point and what is left of the text, or no digits and the text where no point comes next
abbrev pub AfterPoint : List ℕ → List ℕ → List ℕ → Type 0
AfterPoint [] digits left = (digits ≡ []) × (left ≡ [])
AfterPoint (c ∷ cs) digits left = MatchBool (is_point c) (cs ≡ digits ++ left) ((digits ≡ []) × (left ≡ c ∷ cs))

-- the whole number that a text with a sign or without is
abbrev pub power_of : List ℕ → Option ℤ
power_of cs = if exponent_ok (Some cs) then Some (exponent_of (Some cs)) else None

-- the exponent in what stands after a mantissa, where nothing else stands there
abbrev pub exponent_after : List ℕ → Option ℤ
exponent_after [] = Some (pos 0)
exponent_after (c ∷ cs) = if is_e c then power_of cs else None

-- a size counts as far as this, which is off the grid and more than the bytes of any text
abbrev pub saturation : ℕ
saturation = 10 * 2 ^ 60

-- a number as far as that
abbrev pub saturated : ℕ → ℕ
saturated n = min n saturation

-- what digits alone spell, as far as that
abbrev pub spelled_by : List ℕ → Option ℕ
spelled_by cs = if is_digits cs then Some (saturated (digits_value cs)) else None

-- a size under a sign
abbrev pub with_sign : Bool → ℕ → ℤ
with_sign negative size = if negative then neg_ℤ (pos size) else pos size

-- the same with a sign
abbrev pub saturated_size : ℤ → ℤ
saturated_size z = if int_lt z (pos 0) then neg_ℤ (pos (saturated (nat_abs z))) else pos (saturated (nat_abs z))

-- one step more where the first dropped digit is 5 or more
abbrev pub carry_of : ℕ → ℕ
carry_of digit = if nat_lt digit 53 then 0 else 1

-- parts, one by one
abbrev pub parts_with : Bool → List ℕ → List ℕ → ℤ → Parts
parts_with negative whole fraction exponent = record { negative = negative; whole = whole; fraction = fraction; exponent = exponent }

-- parts with their exponent as far as a word holds it
abbrev pub saturated_parts : Parts → Parts
saturated_parts n = record { negative = n.negative; whole = n.whole; fraction = n.fraction; exponent = saturated_size n.exponent }

-- a value that is off the grid
abbrev pub IsOffGrid : Option ℤ → Type 0
IsOffGrid value = IsSomeAnd value (λ z. IsFalse (is_on_grid z))
