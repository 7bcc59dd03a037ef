-- Grid numbers: the decimal numbers of a text in steps of the grid.
use Rattle.std.specs.Prelude.{ℕ, ◌+◌, ◌-◌, ◌*◌, ◌/◌, ◌^◌, ℤ, pos, neg_ℤ, ◌+ℤ◌, ◌-ℤ◌, List, [], ◌∷◌, ◌++◌, true, false, Bool, cond, ◌&&◌, ◌||◌, ◌==◌, nat_lt, nat_le, length, Option, Some, None, int_le, nat_abs, option_map}

abbrev pub is_digit : ℕ → Bool
is_digit c = nat_le 48 c && nat_le c 57

abbrev pub all_digits : List ℕ → Bool
all_digits [] = true
all_digits (c ∷ cs) = is_digit c && all_digits cs

-- one or more digits
abbrev pub is_digits : List ℕ → Bool
is_digits [] = false
is_digits (c ∷ cs) = all_digits (c ∷ cs)

abbrev pub value_from : ℕ → List ℕ → ℕ
value_from v [] = v
value_from v (c ∷ cs) = value_from (v * 10 + (c - 48)) cs

-- the whole number that the digits spell
abbrev pub digits_value : List ℕ → ℕ
digits_value cs = value_from 0 cs

-- the text before the first byte that passes, and the text after it, where there is one
abbrev pub cut_at : (ℕ → Bool) → List ℕ → List ℕ × Option (List ℕ)
cut_at p [] = ([], None)
cut_at p (c ∷ cs) = let r = cut_at p cs in cond (p c) ([], Some cs) (c ∷ r.0, r.1)

-- sign, digits before and after the point, exponent
pub record Parts : Type 0 where
  pub negative : Bool
  pub whole : List ℕ
  pub fraction : List ℕ
  pub exponent : ℤ

-- m 10^t, or divided by 10^d and rounded, half away from nothing
abbrev pub scaled : ℕ → ℤ → ℕ
scaled m t = cond (int_le (pos 0) t) (m * 10 ^ nat_abs t) ((m + 5 * 10 ^ (nat_abs t - 1)) / 10 ^ nat_abs t)

-- m is spelled by the digits without the point, t is e - r + k
abbrev pub size_of : ℕ → Parts → ℕ
size_of k n = scaled (digits_value (n.whole ++ n.fraction)) ((n.exponent -ℤ pos (length n.fraction)) +ℤ pos k)

-- the sign is put on after rounding
abbrev pub value_of : ℕ → Parts → ℤ
value_of k n = cond n.negative (neg_ℤ (pos (size_of k n))) (pos (size_of k n))

-- the sign, and the rest
abbrev pub signed : List ℕ → Bool × List ℕ
signed [] = (false, [])
signed (c ∷ cs) = cond (c == 45) (true, cs) (cond (c == 43) (false, cs) (false, c ∷ cs))

abbrev pub is_e : ℕ → Bool
is_e c = (c == 101) || (c == 69)

-- digits, digits and a point, digits on both sides of it, or a point and digits
abbrev pub mantissa_ok : List ℕ → Option (List ℕ) → Bool
mantissa_ok whole None = is_digits whole
mantissa_ok whole (Some fraction) = all_digits whole && all_digits fraction && nat_lt 0 (length whole + length fraction)

abbrev pub or_empty : Option (List ℕ) → List ℕ
or_empty None = []
or_empty (Some cs) = cs

-- an optional sign and digits
abbrev pub exponent_ok : Option (List ℕ) → Bool
exponent_ok None = true
exponent_ok (Some cs) = is_digits (signed cs).1

abbrev pub exponent_of : Option (List ℕ) → ℤ
exponent_of None = pos 0
exponent_of (Some cs) = let s = signed cs in cond s.0 (neg_ℤ (pos (digits_value s.1))) (pos (digits_value s.1))

-- the parts of a text of the grammar
abbrev pub number_parts : List ℕ → Option Parts
number_parts text =
    let s = signed text in
    let e = cut_at is_e s.1 in
    let m = cut_at (λ c. c == 46) e.0 in
    cond (mantissa_ok m.0 m.1 && exponent_ok e.1) (Some (record { negative = s.0; whole = m.0; fraction = or_empty m.1; exponent = exponent_of e.1 })) None

-- the value of a text of the grammar, on the grid or not
abbrev pub grid_number : ℕ → List ℕ → Option ℤ
grid_number k text = option_map (value_of k) (number_parts text)

-- from -2^30 to 2^30
abbrev pub is_on_grid : ℤ → Bool
is_on_grid z = nat_le (nat_abs z) (2 ^ 30)
