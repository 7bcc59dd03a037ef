-- The steps of a script, or its first fault.
use Rattle.std.specs.Prelude.{ℕ, List, [], ◌∷◌, ◌++◌, ◌==◌, if◌then◌else◌, length, Option, Some, None, Result, Ok, Err}
use Rattle.text_terms.specs.Lines.{lines_of, numbered, without_mark}
use Rattle.mesh_terms.specs.Faults.{Fault}
use Rattle.text_terms.specs.FirstFault.{then_read, read_each, on_line}
use Rattle.format_terms.specs.Obj.{word_lines}
use Rattle.run_terms.specs.Files.{Bytes}
use Rattle.play_terms.specs.ScriptCommands.{ScriptCommand, command_named}
use Rattle.play_terms.specs.Operands.{operands_fault}
use Rattle.play_terms.specs.Steps.{Line, Step}

-- the step, where no operand is refused
abbrev pub unless_refused : Step → Option ℕ → Result Step ℕ
unless_refused step None = Ok step
unless_refused step (Some kind) = Err kind

-- the step of a command with the words after it: 21 where these are not as many as its operands, and then the first operand that is refused
abbrev pub command_step : ℕ → List Line → List Bytes → ScriptCommand → Result Step ℕ
command_step k before ws c =
    let operands = c.operands (length ws) in
    if length ws == length operands then unless_refused (c.step k ws) (operands_fault k before operands ws) else Err 21

-- 20 where the first word is no command
abbrev pub step_by : ℕ → List Line → List Bytes → Option ScriptCommand → Result Step ℕ
step_by k before ws None = Err 20
step_by k before ws (Some c) = command_step k before ws c

-- the lines so far and line n with these words; one without words is passed over
abbrev pub script_line : ℕ → ℕ → List Bytes → List Line → Result (List Line) Fault
script_line k n [] before = Ok before
script_line k n (w ∷ ws) before =
    then_read (on_line n (step_by k before ws (command_named w))) (λ step. Ok (before ++ (n, step) ∷ []))

-- line after line
abbrev pub script_lines : ℕ → List (ℕ × List Bytes) → List Line → Result (List Line) Fault
script_lines k ls before = read_each (λ l s. script_line k l.0 l.1 s) ls before

-- the words of each line of a script up to a comment, with the line's number
abbrev pub numbered_words : Bytes → List (ℕ × List Bytes)
numbered_words bytes = word_lines (numbered 1 (lines_of (without_mark bytes)))

-- the steps of a script under k digits, each with its line; or the first faulty line with its kind
abbrev pub script : ℕ → Bytes → Result (List Line) Fault
script k bytes = script_lines k (numbered_words bytes) []
