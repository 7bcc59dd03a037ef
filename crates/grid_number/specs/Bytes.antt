-- The bytes of a written number.
use Rattle.std.specs.Prelude.{ℕ, Bool, ◌||◌, ◌==◌, List, [], codes, if◌then◌else◌}
use Rattle.text_terms.specs.Numbers.{is_digit}

-- a digit, `-` or `.`
abbrev pub is_number_byte : ℕ → Bool
is_number_byte c = is_digit c || (c == 45) || (c == 46)

-- the sign in front of a number's size
abbrev pub sign_of : Bool → List ℕ
sign_of negative = if negative then codes "-" else []
