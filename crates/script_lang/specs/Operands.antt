-- Operands as they are read: three numbers, and a few digits.
use Rattle.std.specs.Prelude.{ℕ, ℤ, List, ◌&&◌, nat_le, if◌then◌else◌, length, Option, Some, None}
use Rattle.text_terms.specs.Numbers.{is_digits, digits_value}
use Rattle.made_terms.specs.Solids.{point}
use Rattle.run_terms.specs.Files.{Bytes}
use Rattle.play_terms.specs.Operands.{number_of, number_fault, or_later}

-- no command has more operands
abbrev pub most_operands : ℕ
most_operands = 129

-- the numbers of three words
abbrev pub three_of : ℕ → Bytes → Bytes → Bytes → List ℤ
three_of k x y z = point (number_of k x) (number_of k y) (number_of k z)

-- the first fault of three words as numbers
abbrev pub three_fault : ℕ → Bytes → Bytes → Bytes → Option ℕ
three_fault k x y z = or_later (number_fault k x) (or_later (number_fault k y) (number_fault k z))

-- the value of one to seven digits
abbrev pub few_digits : Bytes → Option ℕ
few_digits w = if is_digits w && nat_le (length w) 7 then Some (digits_value w) else None
