use Rattle.std.proofs.Common.{◌∙◌, ◌++◌, ap, sym}
use Rattle.std.specs.Option.{option_map}
use Rattle.play_terms.specs.ScriptCommands.{motions, outlines, solids}
use Rattle.script_lang.specs.Steps.{making}
use Rattle.script_lang.proofs.Named.{named_first, named_second}
use Rattle.script_lang.proofs.commands.making_or_moving.Goals as goal

pub returns-in-Some : goal.returns-in-Some
returns-in-Some c = named_first solids (motions ++ outlines) c.args.word.now (making c.in-Some.solid) (sym (ap (option_map making) c.in-Some.is) ∙ c.named.ensures)

pub returns-in-None : goal.returns-in-None
returns-in-None c = c.moving_by.ensures ∙ named_second solids (motions ++ outlines) c.args.word.now (sym (ap (option_map making) c.in-None.is) ∙ c.named.ensures)
