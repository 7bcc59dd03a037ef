-- The decimal text of a grid number, and lines of text.
use Rattle.std.specs.Prelude.{ℕ, zero, suc, ◌+◌, ◌/◌, ◌%◌, ◌^◌, ℤ, pos, List, [], ◌∷◌, ◌++◌, true, false, Bool, if◌then◌else◌, ◌&&◌, ◌==◌, codes, decimal, int_lt, nat_abs}
use Rattle.mesh_terms.specs.Points.{coordinate_of}

-- the last k decimal digits of n
abbrev pub last_digits : ℕ → ℕ → List ℕ
last_digits zero n = []
last_digits (suc k) n = last_digits k (n / 10) ++ (48 + n % 10) ∷ []

abbrev pub is_empty : List ℕ → Bool
is_empty [] = true
is_empty (c ∷ cs) = false

abbrev pub without_zeros : List ℕ → List ℕ
without_zeros [] = []
without_zeros (c ∷ cs) = if (c == 48) && is_empty (without_zeros cs) then [] else c ∷ without_zeros cs

-- a point and the rest in k digits without trailing zeros, where the rest is not 0
abbrev pub written_rest : ℕ → ℕ → List ℕ
written_rest k rest = if rest == 0 then [] else codes "." ++ without_zeros (last_digits k rest)

-- the text of a size: the whole part without leading zeros, and the rest
abbrev pub written_size : ℕ → ℕ → List ℕ
written_size k n = decimal (n / 10 ^ k) ++ written_rest k (n % 10 ^ k)

abbrev pub written : ℕ → ℤ → List ℕ
written k z = if int_lt z (pos 0) then codes "-" ++ written_size k (nat_abs z) else written_size k (nat_abs z)

-- a text with the end of its line
abbrev pub line_of : List ℕ → List ℕ
line_of text = text ++ 10 ∷ []

-- the coordinates of a point
abbrev pub three_numbers : ℕ → List ℤ → List ℕ
three_numbers k p = written k (coordinate_of p 0) ++ codes " " ++ written k (coordinate_of p 1) ++ codes " " ++ written k (coordinate_of p 2)
