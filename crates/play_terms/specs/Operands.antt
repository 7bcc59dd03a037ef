-- The operands of a command: names, files, numbers and axes, and why one is refused.
use Rattle.std.specs.Prelude.{ℕ, ℤ, pos, nat_le, List, [], ◌∷◌, false, Bool, ◌&&◌, ◌||◌, ◌==◌, if◌then◌else◌, length, codes, bytes_eq, Option, Some, None, unwrap_or}
use Rattle.std.specs.Char.{is_ascii_alphabetic, is_ascii_alphanumeric}
use Rattle.std.specs.List.{list_all}
use Rattle.std.specs.Str.{is_utf8}
use Rattle.text_terms.specs.Numbers.{is_digits, digits_value}
use Rattle.play_terms.specs.Formats.{is_mesh_name}
use Rattle.play_terms.specs.Words.{grid_operand}
use Rattle.run_terms.specs.Files.{Bytes}
use Rattle.play_terms.specs.Steps.{Line, is_given}
use Rattle.play_terms.specs.declared.held.HeldKind.{HeldKind}
use Rattle.play_terms.specs.declared.held.HeldKind.TheVariants as held

-- what an operand is: a name that gets a mesh or an outline, the name of a mesh, that of an outline, the name of a mesh file, a number on the grid, a whole
-- number from low to high, or an axis
pub data Operand : Type 0 where
  NewName : Operand
  OldMesh : Operand
  OldOutline : Operand
  FileName : Operand
  Number : Operand
  Within : (low high : ℕ) → Operand
  Axis : Operand

abbrev pub is_name_byte : ℕ → Bool
is_name_byte c = is_ascii_alphanumeric c || (c == 95)

abbrev pub begins_name : Bytes → Bool
begins_name [] = false
begins_name (c ∷ cs) = is_ascii_alphabetic c

-- at most 32 bytes, the first an ASCII letter, the others ASCII letters, digits or _
abbrev pub is_name : Bytes → Bool
is_name w = begins_name w && nat_le (length w) 32 && list_all is_name_byte w

-- 22 where the word is no name
abbrev pub new_name_fault : Bytes → Option ℕ
new_name_fault w = if is_name w then None else Some 22

-- 22 where it is no name, else 23 where the lines before do not leave it something of this kind
abbrev pub old_name_fault : HeldKind → List Line → Bytes → Option ℕ
old_name_fault kind before w =
    if is_name w then (if is_given kind w before then None else Some 23) else Some 22

-- 25 where it is no text, or has another suffix
abbrev pub file_name_fault : Bytes → Option ℕ
file_name_fault w = if is_utf8 w && is_mesh_name w then None else Some 25

-- one to seven digits with a value from low to high
abbrev pub is_within : ℕ → ℕ → Bytes → Bool
is_within low high w = is_digits w && nat_le (length w) 7 && nat_le low (digits_value w) && nat_le (digits_value w) high

-- x, y and z are 0 to 2
abbrev pub axis : Bytes → Option ℕ
axis w =
    if bytes_eq w (codes "x") then Some 0
    else if bytes_eq w (codes "y") then Some 1
    else if bytes_eq w (codes "z") then Some 2
    else None

-- 24 where there is no value
abbrev pub value_fault : {A : Type 0} → Option A → Option ℕ
value_fault None = Some 24
value_fault (Some a) = None

-- the number of a word under k digits; 0 where it has none on the grid
unfoldable pub number_of : ℕ → Bytes → ℤ
number_of k w = unwrap_or (grid_operand k w) (pos 0)

-- 24 where the word is no number on the grid under k digits
unfoldable pub number_fault : ℕ → Bytes → Option ℕ
number_fault k w = value_fault (grid_operand k w)

-- 24 where it is no whole number in the range
abbrev pub within_fault : ℕ → ℕ → Bytes → Option ℕ
within_fault low high w = if is_within low high w then None else Some 24

-- 24 where it is no axis
abbrev pub axis_fault : Bytes → Option ℕ
axis_fault w = value_fault (axis w)

-- the refusal of a word as this operand, if there is one, under k digits and after the lines before it
abbrev pub operand_fault : ℕ → List Line → Operand → Bytes → Option ℕ
operand_fault k before NewName w = new_name_fault w
operand_fault k before OldMesh w = old_name_fault held.Mesh before w
operand_fault k before OldOutline w = old_name_fault held.Outline before w
operand_fault k before FileName w = file_name_fault w
operand_fault k before Number w = number_fault k w
operand_fault k before (Within low high) w = within_fault low high w
operand_fault k before Axis w = axis_fault w

abbrev pub or_later : Option ℕ → Option ℕ → Option ℕ
or_later None later = later
or_later (Some kind) later = Some kind

-- the first refusal, from left to right
abbrev pub operands_fault : ℕ → List Line → List Operand → List Bytes → Option ℕ
operands_fault k before [] ws = None
operands_fault k before (o ∷ os) [] = None
operands_fault k before (o ∷ os) (w ∷ ws) = or_later (operand_fault k before o w) (operands_fault k before os ws)
