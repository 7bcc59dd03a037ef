use Rattle.std.proofs.Common.{◌∙◌, ap, sym}
use Rattle.std.specs.Option.{option_map}
use Rattle.play_terms.specs.Plays.{outline_or_none}
use Rattle.script_runs.proofs.names.HeldNames.outline_of.Goals as goal

pub returns : goal.returns
returns c = sym (ap outline_or_none (sym c.outline.ensures ∙ ap (option_map (λ m. m.now)) c.in-Some.is))
