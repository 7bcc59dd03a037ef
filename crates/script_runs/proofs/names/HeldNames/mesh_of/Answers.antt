use Rattle.std.proofs.Common.{◌∙◌, ap, sym}
use Rattle.std.specs.Option.{option_map}
use Rattle.play_terms.specs.Plays.{mesh_or_none}
use Rattle.script_runs.proofs.names.HeldNames.mesh_of.Goals as goal

pub returns : goal.returns
returns c = sym (ap mesh_or_none (sym c.mesh.ensures ∙ ap (option_map (λ m. m.now)) c.in-Some.is))
