-- The command that was read, with its operands as bytes.
use Rattle.std.specs.Prelude.{ℕ}
use Rattle.play_terms.specs.Words as words
use Rattle.command_words.specs.declared.commands.Command.{Command}
use Rattle.command_words.specs.declared.commands.Command.TheVariants.{CopyFile, InsideFile, RunScript}

abbrev pub command_of : Command → words.Command
command_of (CopyFile digits from to) = words.CopyFile digits from.now to.now
command_of (InsideFile digits file point) = words.InsideFile digits file.now point
command_of (RunScript digits script) = words.RunScript digits script.now

-- the digits of a command
abbrev pub digits_in : Command → ℕ
digits_in (CopyFile digits from to) = digits
digits_in (InsideFile digits file point) = digits
digits_in (RunScript digits script) = digits
