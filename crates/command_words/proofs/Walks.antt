-- The walk that clap makes over the words after the first: where it stands, and what it comes to.
use Rattle.std.specs.Prelude.{◌≡◌, ⊤, ◌∷◌, ◌++◌, [], List, ℕ, Bool, true, false, Option, Some, None, codes, unwrap_or, fold}
use Rattle.std.specs.Option.{option_and_then}
use Rattle.std.specs.Str.{IsUtf8}
use Rattle.run_terms.specs.Files.{Bytes}
use Rattle.clap.specs.Words.{Kinds, Row, Rule, Shape, all_of, built, first_of}
use Rattle.clap.specs.Kinds.{or_else}
use Rattle.clap.specs.Lexer.{long_of, short_of}
use Rattle.clap.specs.Walk.{Held, Waiting, Walk, finished, has_row, idle, positional, settled, settled_rows, walked}
use Rattle.clap.specs.Faults.{check_fault, defaults_fault, flag_word_fault, settle_fault, turn_fault, walk_fault}
use Rattle.play_terms.specs.Words.{Given, digits_of, is_option_end, with_operand}
use Rattle.command_words.specs.Values.{listed}
use Rattle.command_words.specs.ClapGrammar.{grammar_app}
use Rattle.command_words.specs.Grammar.{given_by}

abbrev pub shape : Shape
shape = (built grammar_app).top

abbrev pub rules : List Rule
rules = shape.rules

-- there is a fault
abbrev pub IsFault : Kinds → Type 0
IsFault [] = ⊥
IsFault (k ∷ ks) = ⊤

abbrev pub AreTexts : List Bytes → Type 0
AreTexts [] = ⊤
AreTexts (w ∷ ws) = IsUtf8 w × AreTexts ws

-- ---- where the walk stands

-- an argument with the values of its use, where one is yet to settle
abbrev pub Use : Type 0
Use = Option (Bytes × List Bytes)

abbrev pub digits_use : List Bytes → Use
digits_use vs = Some (codes "digits", vs)

abbrev pub operand_use : Bytes → Use
operand_use w = Some (codes "operands", w ∷ [])

abbrev pub held : List Row → Use → Held
held rows p = record { rows = rows; pending = p; skip = 0 }

-- after these rows, with this use yet to settle
abbrev pub stands : Bool → Waiting → List Row → Use → Walk
stands ended waiting rows p = record { held = held rows p; waiting = waiting; position = 1; is_trailing = ended; stopped = None }

-- no option waits for its value; operands were met before, or were not
abbrev pub free : Bool → Waiting
free false = idle
free true = positional

-- ---- what it comes to

-- the faults of a use that settles
abbrev pub use_faults : List Row → Use → Kinds
use_faults rows p = settle_fault rules false (held rows p)

-- the rows with it
abbrev pub with_use : Use → List Row → List Row
with_use p rows = settled_rows rules p rows

-- the faults of a word, and the walk after it
abbrev pub turn : Walk → Bytes → Kinds × Walk
turn w word = (turn_fault shape [] w word, walked rules [] w word)

-- the faults after the last word
abbrev pub last_faults : Held → Kinds
last_faults end = or_else (settle_fault rules false end) (or_else (defaults_fault (settled rules end).rows rules) (check_fault shape (finished rules end) false))

-- the faults and the rows of a walk that goes on over these words
abbrev pub outcome : Walk → List Bytes → Kinds × List Row
outcome w ws =
    let end = (fold (walked rules []) w ws).held in
    (or_else (walk_fault shape [] w ws) (last_faults end), finished rules end)

-- ---- what was given

abbrev pub given_rows : List Row → Given
given_rows rows = record { operands = unwrap_or (all_of (codes "operands") rows) []; digits = listed (first_of (codes "digits") rows) }

abbrev pub one_operand : Given → Bytes → Given
one_operand g w = record { operands = g.operands ++ w ∷ []; digits = g.digits }

abbrev pub one_value : Given → Bytes → Given
one_value g v = record { operands = g.operands; digits = g.digits ++ v ∷ [] }

-- these first, then those
abbrev pub joined : Given → Option Given → Option Given
joined first None = None
joined first (Some g) = Some (record { operands = first.operands ++ g.operands; digits = first.digits ++ g.digits })

abbrev pub digits_given : Option Given → Option ℕ
digits_given o = option_and_then (λ g. digits_of g.digits) o

abbrev pub are_some : List Bytes → Bool
are_some [] = false
are_some (v ∷ vs) = true

-- the rows say what was given, and there is one for the digits where a value was
pub record Tells (rows : List Row) (g : Given) : Type 0 where
  pub given : given_rows rows ≡ g
  pub met : has_row (codes "digits") rows ≡ are_some g.digits

-- so they do when the use has settled, which is no fault
pub record Settles (rows : List Row) (p : Use) (g : Given) : Type 0 where
  pub fault : use_faults rows p ≡ []
  pub tells : Tells (with_use p rows) g

-- no fault, and the rows say what was given; or a fault, and the digits that were given are none
pub data Reads (end : Kinds × List Row) (o : Option Given) : Type 0 where
  taken : end.0 ≡ [] → o ≡ Some (given_rows end.1) → Reads end o
  refused : IsFault end.0 → digits_given o ≡ None → Reads end o

-- ---- the sorts of words

-- neither an option nor an operand
pub record Unknown (w : Bytes) : Type 0 where
  pub unended : is_option_end w ≡ false
  pub no_digit : digits_of (w ∷ []) ≡ None
  pub gives : (ws : List Bytes) → given_by (w ∷ ws) ≡ None
  pub fault : (rows : List Row) (p : Use) → IsFault (flag_word_fault rules false (long_of w) w (held rows p))

-- an operand, or a value
pub record Plain (w : Bytes) : Type 0 where
  pub unended : is_option_end w ≡ false
  pub no_long : long_of w ≡ None
  pub no_short : short_of w ≡ None
  pub gives : (ws : List Bytes) → given_by (w ∷ ws) ≡ with_operand w (given_by ws)

pub data Sort : Bytes → Type 0 where
  ends : Sort (codes "--")
  attaches : (v : Bytes) → Sort (codes "--digits=" ++ v)
  opens : Sort (codes "--digits")
  unknown : {w : Bytes} → Unknown w → Sort w
  plain : {w : Bytes} → Plain w → Sort w
