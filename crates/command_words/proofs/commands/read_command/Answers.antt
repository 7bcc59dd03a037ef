use Rattle.std.proofs.Common.{◌∙◌, is_some, ap, sym}
use Rattle.std.specs.Prelude.{string_bytes}
use Rattle.command_words.proofs.Reading.{command_named}
use Rattle.command_words.proofs.commands.read_command.Goals as goal

pub returns-in_default-2-clause-command : goal.returns-in_default-2-clause-command
returns-in_default-2-clause-command c =
    sym (command_named c.args.args.now c.as_slice.result.now c.in-Some.name.now c.in-Some.words.now c.as_slice.ensures c.in-Some.ensures.cases.0
    ∙ c.in_ok-matches.ensures.refused (ap is_some c.in_default-2.is) (string_bytes c.in-Some.name.now))
