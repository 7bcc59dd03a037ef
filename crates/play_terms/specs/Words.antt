-- The words of a command line: a command, operands and options, where after the first -- every word is an operand.
use Rattle.std.specs.Prelude.{◌≡◌, ℕ, ◌-◌, ℤ, nat_le, List, [], ◌∷◌, ◌++◌, Bool, not, ◌&&◌, ◌||◌, if◌then◌else◌, length, take, drop, codes, bytes_eq, Option, Some, None}
use Rattle.std.specs.Option.{option_and_then}
use Rattle.text_terms.specs.Numbers.{grid_number, is_on_grid}
use Rattle.run_terms.specs.Files.{Bytes}
use Rattle.play_terms.specs.Formats.{is_mesh_name}

-- a command with the digits and its operands
pub data Command : Type 0 where
  CopyFile : (digits : ℕ) → (from : Bytes) → (to : Bytes) → Command
  InsideFile : (digits : ℕ) → (file : Bytes) → (point : List ℤ) → Command
  RunScript : (digits : ℕ) → (script : Bytes) → Command

abbrev pub IsCopy : Option Command → Type 0
IsCopy o = (k : ℕ) × (from : Bytes) × (to : Bytes) × (o ≡ Some (CopyFile k from to))

abbrev pub IsInside : Option Command → Type 0
IsInside o = (k : ℕ) × (file : Bytes) × (point : List ℤ) × (o ≡ Some (InsideFile k file point))

abbrev pub IsRun : Option Command → Type 0
IsRun o = (k : ℕ) × (script : Bytes) × (o ≡ Some (RunScript k script))

abbrev pub is_option_end : Bytes → Bool
is_option_end word = bytes_eq word (codes "--")

-- the words before the first --
abbrev pub before_end : List Bytes → List Bytes
before_end [] = []
before_end (w ∷ ws) = if is_option_end w then [] else w ∷ before_end ws

-- the words after the first --
abbrev pub after_end : List Bytes → List Bytes
after_end [] = []
after_end (w ∷ ws) = if is_option_end w then ws else after_end ws

-- the operands, and the values that were given as digits
pub record Given : Type 0 where
  pub operands : List Bytes
  pub digits : List Bytes

abbrev pub with_operand : Bytes → Option Given → Option Given
with_operand w None = None
with_operand w (Some g) = Some (record { operands = w ∷ g.operands; digits = g.digits })

abbrev pub with_digits : Bytes → Option Given → Option Given
with_digits w None = None
with_digits w (Some g) = Some (record { operands = g.operands; digits = w ∷ g.digits })

abbrev pub begins_with : Bytes → Bytes → Bool
begins_with front word = bytes_eq (take (length front) word) front

-- a word that takes no next word: --digits=K, or an operand, which is - alone or does not begin with -
abbrev pub with_word : Bytes → Option Given → Option Given
with_word w g =
    if begins_with (codes "--digits=") w then with_digits (drop 9 w) g
    else if bytes_eq w (codes "-") || not (begins_with (codes "-") w) then with_operand w g
    else None

-- the words from left to right; --digits takes the next word as its value
abbrev pub given : List Bytes → Option Given
given [] = Some (record { operands = []; digits = [] })
given (w ∷ []) = if bytes_eq w (codes "--digits") then None else with_word w (given [])
given (w ∷ v ∷ ws) = if bytes_eq w (codes "--digits") then with_digits v (given ws) else with_word w (given (v ∷ ws))

-- one character from 0 to 6, at most once; 4 where none is given
abbrev pub digits_of : List Bytes → Option ℕ
digits_of [] = Some 4
digits_of ((c ∷ []) ∷ []) = if nat_le 48 c && nat_le c 54 then Some (c - 48) else None
digits_of _ = None

-- two names of mesh files
abbrev pub copy_of : ℕ → List Bytes → Option Command
copy_of k (from ∷ to ∷ []) = if is_mesh_name from && is_mesh_name to then Some (CopyFile k from to) else None
copy_of k _ = None

-- the value before the others, or none where one has no value
abbrev pub put_value : {Y : Type 0} → Option Y → Option (List Y) → Option (List Y)
put_value None o = None
put_value (Some y) None = None
put_value (Some y) (Some ys) = Some (y ∷ ys)

-- the value of each by f, or none where one has no value
abbrev pub each_value : {X Y : Type 0} → (X → Option Y) → List X → Option (List Y)
each_value f [] = Some []
each_value f (x ∷ xs) = put_value (f x) (each_value f xs)

-- the number of a text of the grammar of grid numbers, where it is on the grid
abbrev pub grid_operand : ℕ → Bytes → Option ℤ
grid_operand k word = option_and_then (λ z. if is_on_grid z then Some z else None) (grid_number k word)

abbrev pub inside_at : ℕ → Bytes → Option (List ℤ) → Option Command
inside_at k file None = None
inside_at k file (Some p) = Some (InsideFile k file p)

-- the name of a mesh file and three numbers
abbrev pub inside_of : ℕ → List Bytes → Option Command
inside_of k (file ∷ x ∷ y ∷ z ∷ []) = if is_mesh_name file then inside_at k file (each_value (grid_operand k) (x ∷ y ∷ z ∷ [])) else None
inside_of k _ = None

-- one operand that is not empty
abbrev pub run_of : ℕ → List Bytes → Option Command
run_of k (script ∷ []) = if bytes_eq script [] then None else Some (RunScript k script)
run_of k _ = None

-- the command of this name with its operands under k digits
abbrev pub command_with : Bytes → List Bytes → ℕ → Option Command
command_with w operands k =
    if bytes_eq w (codes "copy") then copy_of k operands
    else if bytes_eq w (codes "inside") then inside_of k operands
    else if bytes_eq w (codes "run") then run_of k operands
    else None

-- the command of this name with what was given
abbrev pub command_by : Bytes → Option Given → Option Command
command_by w o = option_and_then (λ g. option_and_then (command_with w g.operands) (digits_of g.digits)) o

-- more operands at the end
abbrev pub with_more : List Bytes → Option Given → Option Given
with_more ws None = None
with_more ws (Some g) = Some (record { operands = g.operands ++ ws; digits = g.digits })

-- the command of the words, or none where they are of no command
abbrev pub command : List Bytes → Option Command
command [] = None
command (w ∷ ws) = command_by w (with_more (after_end ws) (given (before_end ws)))
