-- Numbers that count no further than some greatest one, and words read one after the other.
use Rattle.std.specs.Prelude.{◌≡◌, ℕ, ◌^◌, Bool, List, [], ◌∷◌, ◌++◌, Option, Some, None, Result, Ok, Err, if◌then◌else◌, min}
use Rattle.text_terms.specs.Numbers.{is_digits, digits_value}
use Rattle.format_terms.specs.ObjFaces.{minus_first}

-- above the number of points of any file
abbrev pub most : ℕ
most = 2 ^ 32

-- the number that digits spell, as far as it counts
abbrev pub digits_up_to : ℕ → List ℕ → Option ℕ
digits_up_to n word = if is_digits word then Some (min (digits_value word) n) else None

-- an optional - and digits: whether it is there, and the size, as far as it counts
abbrev pub whole_up_to : ℕ → List ℕ → Option (Bool × ℕ)
whole_up_to n word =
    let s = minus_first word in
    if is_digits s.1 then Some (s.0, min (digits_value s.1) n) else None

-- a word reads as a value, which stands behind the old ones
pub record IsRead (f : List ℕ → Result ℕ ℕ) (word old new : List ℕ) : Type 0 where
  pub value : ℕ
  pub reads : f word ≡ Ok value
  pub added : new ≡ old ++ value ∷ []

-- what the words so far read as, before what the others do
abbrev pub read_after : List ℕ → Result (List ℕ) ℕ → Result (List ℕ) ℕ
read_after old (Err kind) = Err kind
read_after old (Ok values) = Ok (old ++ values)
