use Rattle.std.proofs.Common.{ap, ◌∙◌}
use Rattle.plane_laws.specs.Decisions.{Vector}
use Rattle.inspection_laws.specs.Signs.{reaches_by, seen_along}
use Rattle.self_cuts.specs.Faces.{corners}
use Rattle.self_cuts.proofs.pair.reaches.Goals as goal

pub returns : goal.returns
returns c = c.reaches_along.ensures ∙ ap (λ (n : Vector). reaches_by (seen_along n) (corners c.args.t.now) (corners c.args.o.now)) c.args.o.now.normal_is
