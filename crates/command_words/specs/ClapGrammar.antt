-- How clap reads the words after the first.
use Rattle.std.specs.Prelude.{true, Some, codes}
use Rattle.clap.specs.Words.{App, Rule, new_app, new_rule, with_rule}
use Rattle.clap.specs.declared.builder.action.ArgAction.TheVariants.{Append, Set}

-- the option --digits, which takes a value
abbrev pub digits_rule : Rule
digits_rule = record (new_rule (codes "digits")) { long = Some (codes "digits"); action = Some Set }

-- as many operands as there are
abbrev pub operands_rule : Rule
operands_rule = record (new_rule (codes "operands")) { action = Some Append }

-- neither a name of a program before them nor an option for help
abbrev pub bare_app : App
bare_app = record (new_app (codes "command")) { top = record (new_app (codes "command")).top { no_binary_name = true; disable_help_flag = true } }

-- the grammar
abbrev pub grammar_app : App
grammar_app = with_rule (with_rule bare_app digits_rule) operands_rule
