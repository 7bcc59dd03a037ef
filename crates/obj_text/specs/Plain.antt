-- Plain lines: a letter and three words with one space before each, and an LF or a CR and an LF behind.
use Rattle.std.specs.Prelude.{◌≡◌, ℕ, ◌+◌, ◌<◌, ◌≤◌, ℤ, pos, List, [], ◌∷◌, ◌++◌, true, false, Bool, Option, Some, None, take, not, ◌&&◌, ◌==◌, nat_lt, length, codes, IsTrue, IsFalse, Ok}
use Rattle.mesh_terms.specs.Limits.{Limits}
use Rattle.text_terms.specs.Numbers.{all_digits, value_from, digits_value, or_empty, size_of}
use Rattle.text_terms.specs.Coordinates.{coordinate}
use Rattle.grid_number.specs.Reading.{carry_of}
use Rattle.text_terms.specs.FirstFault.{each_read}
use Rattle.format_terms.specs.Obj.{Gathered, obj_lines}

-- a byte above a space that is neither # nor \
abbrev pub is_plain : ℕ → Bool
is_plain c = nat_lt 32 c && not (c == 35) && not (c == 92)

abbrev pub all_plain : List ℕ → Bool
all_plain [] = true
all_plain (c ∷ cs) = is_plain c && all_plain cs

-- no plain byte stands at the front
abbrev pub ends_plain : List ℕ → Bool
ends_plain [] = true
ends_plain (c ∷ cs) = not (is_plain c)

-- some plain bytes
pub record IsPlainWord (word : List ℕ) : Type 0 where
  pub some : 0 < length word
  pub plain : IsTrue (all_plain word)

-- so many digits at the front of a text, behind digits that spell a number, and what all of them spell
pub record SpellsOn (before : ℕ) (text : List ℕ) (value count : ℕ) : Type 0 where
  pub within : count ≤ length text
  pub digits : IsTrue (all_digits (take count text))
  pub spelled : value ≡ value_from before (take count text)

-- digits, and a point and digits behind it, where there is one
abbrev pub mantissa : List ℕ → Option (List ℕ) → List ℕ
mantissa whole None = whole
mantissa whole (Some fraction) = whole ++ 46 ∷ fraction

-- a text begins with such a number, whose size in steps this is
pub record BeginsSize (k : ℕ) (text : List ℕ) (size : ℕ) (rest : List ℕ) : Type 0 where
  pub whole : List ℕ
  pub fraction : Option (List ℕ)
  pub split : text ≡ mantissa whole fraction ++ rest
  pub some : 0 < length whole
  pub digits : IsTrue (all_digits whole)
  pub more : IsTrue (all_digits (or_empty fraction))
  pub sized : size ≡ size_of k (record { negative = false; whole = whole; fraction = or_empty fraction; exponent = pos 0 })

-- one step more where the first of the digits that are dropped is 5 or more
abbrev pub carry_by : List ℕ → ℕ
carry_by [] = 0
carry_by (d ∷ ds) = carry_of d

-- digits at the front of a text that are dropped
pub record Drops (text : List ℕ) (carry : ℕ) (rest : List ℕ) : Type 0 where
  pub lost : List ℕ
  pub split : text ≡ lost ++ rest
  pub digits : IsTrue (all_digits lost)
  pub carries : carry ≡ carry_by lost

-- digits behind the point of a number, whose size in steps this is
pub record EndsSize (k : ℕ) (whole : ℕ) (text : List ℕ) (size : ℕ) (rest : List ℕ) : Type 0 where
  pub fraction : List ℕ
  pub split : text ≡ fraction ++ rest
  pub digits : IsTrue (all_digits fraction)
  pub sized : (ds : List ℕ) → digits_value ds ≡ whole → size ≡ size_of k (record { negative = false; whole = ds; fraction = fraction; exponent = pos 0 })

-- digits that spell the number, counted from 1, of a vertex from 0
pub record IsIndexOf (vertex : ℕ) (word : List ℕ) : Type 0 where
  pub digits : IsTrue (all_digits word)
  pub spelled : digits_value word ≡ vertex + 1

-- a text begins with a space and such a word
pub record BeginsIndex (text : List ℕ) (vertex : ℕ) (rest : List ℕ) : Type 0 where
  pub word : List ℕ
  pub split : text ≡ 32 ∷ (word ++ rest)
  pub index : IsIndexOf vertex word

-- a text begins with a plain word that reads as a coordinate
pub record BeginsWord (k : ℕ) (text : List ℕ) (value : ℤ) (rest : List ℕ) : Type 0 where
  pub word : List ℕ
  pub split : text ≡ word ++ rest
  pub plain : IsPlainWord word
  pub reads : coordinate k word ≡ Ok value

-- the same behind a space
pub record BeginsCoordinate (k : ℕ) (text : List ℕ) (value : ℤ) (rest : List ℕ) : Type 0 where
  pub word : List ℕ
  pub split : text ≡ 32 ∷ (word ++ rest)
  pub plain : IsPlainWord word
  pub reads : coordinate k word ≡ Ok value

-- what ends a line: an LF, or a CR and an LF
abbrev pub line_end : Bool → List ℕ
line_end false = 10 ∷ []
line_end true = 13 ∷ 10 ∷ []

-- a text begins with the end of a line
pub record EndsLine (text rest : List ℕ) : Type 0 where
  pub cr : Bool
  pub split : text ≡ line_end cr ++ rest

-- a text whose first line is a letter and three words
abbrev pub with_line : ℕ → List ℕ → List ℕ → List ℕ → Bool → List ℕ → List ℕ
with_line letter a b c cr rest = letter ∷ 32 ∷ (a ++ 32 ∷ (b ++ 32 ∷ (c ++ (line_end cr ++ rest))))

-- a text begins with the line of a face
pub record BeginsFace (text : List ℕ) (a b c : ℕ) (rest : List ℕ) : Type 0 where
  pub first : List ℕ
  pub second : List ℕ
  pub third : List ℕ
  pub cr : Bool
  pub split : text ≡ with_line 102 first second third cr rest
  pub a_is : IsIndexOf a first
  pub b_is : IsIndexOf b second
  pub c_is : IsIndexOf c third

-- a text begins with the line of a point
pub record BeginsPoint (k : ℕ) (text : List ℕ) (point : List ℤ) (rest : List ℕ) : Type 0 where
  pub first : List ℕ
  pub second : List ℕ
  pub third : List ℕ
  pub cr : Bool
  pub split : text ≡ with_line 118 first second third cr rest
  pub x_plain : IsPlainWord first
  pub y_plain : IsPlainWord second
  pub z_plain : IsPlainWord third
  pub reads : each_read (coordinate k) (first ∷ second ∷ third ∷ []) ≡ Ok point

-- the first of some lines is that of a face
pub record IsFaceFirst (lines : List (ℕ × List (List ℕ))) (a b c : ℕ) (after : List (ℕ × List (List ℕ))) : Type 0 where
  pub number : ℕ
  pub first : List ℕ
  pub second : List ℕ
  pub third : List ℕ
  pub cut : lines ≡ (number, codes "f" ∷ first ∷ second ∷ third ∷ []) ∷ after
  pub a_is : IsIndexOf a first
  pub b_is : IsIndexOf b second
  pub c_is : IsIndexOf c third

-- the first of some lines is that of a point
pub record IsPointFirst (k : ℕ) (lines : List (ℕ × List (List ℕ))) (point : List ℤ) (after : List (ℕ × List (List ℕ))) : Type 0 where
  pub number : ℕ
  pub first : List ℕ
  pub second : List ℕ
  pub third : List ℕ
  pub cut : lines ≡ (number, codes "v" ∷ first ∷ second ∷ third ∷ []) ∷ after
  pub reads : each_read (coordinate k) (first ∷ second ∷ third ∷ []) ≡ Ok point

-- from some lines and what was gathered before them to where one more line is read, or none: all comes to the same in
-- the end, and where one was read there are fewer lines, else the same
pub record ReadsLine (k : ℕ) (limits : Limits) (old new : List (ℕ × List (List ℕ)) × Gathered) (more : Bool) : Type 0 where
  pub read : obj_lines k limits old.0 old.1 ≡ obj_lines k limits new.0 new.1
  pub fewer : IsTrue more → length new.0 < length old.0
  pub kept : IsFalse more → new.0 ≡ old.0
