use Rattle.std.proofs.Common.{◌∙◌, ap, sym}
use Rattle.std.specs.Option.{option_map}
use Rattle.play_terms.specs.ScriptCommands.{motions, outlines}
use Rattle.script_lang.specs.Steps.{moving}
use Rattle.script_lang.proofs.Named.{named_first, named_second}
use Rattle.script_lang.proofs.commands.moving_by.Goals as goal

pub returns-in-Some : goal.returns-in-Some
returns-in-Some c = named_first motions outlines c.args.word.now (moving c.in-Some.motion) (sym (ap (option_map moving) c.in-Some.is) ∙ c.named.ensures)

pub returns-in-None : goal.returns-in-None
returns-in-None c = c.of_outlines.ensures ∙ named_second motions outlines c.args.word.now (sym (ap (option_map moving) c.in-None.is) ∙ c.named.ensures)
